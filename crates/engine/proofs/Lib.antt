-- Laws of the calls. A reader starts at Demands, then Theorems.
-- every call, by its shape
pub mod Shape
-- demand 3 over the calls
pub mod Returning
pub mod FromAxioms
-- demand 1 over the calls
pub mod Refusing
pub mod Theorems
-- the demands on one page
pub mod Demands
