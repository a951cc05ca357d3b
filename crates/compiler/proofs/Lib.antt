-- Laws of compiling. A reader starts at Theorems.
-- refusals in the scope's order
pub mod Refusing
-- refusals, and an accepted text before and after its rows are handed over
pub mod Compiling
-- what is promised has one outcome only
pub mod Unique
pub mod Theorems
-- and what is lent beyond what is asked plays no part
pub mod Longer
