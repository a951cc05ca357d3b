-- Laws of marking. A reader starts at Theorems.
-- the key of a settled text
pub mod Settled
-- what a check by it comes to, and what marking does
pub mod Checks
pub mod ClassMarking
-- what is marked and what is refused, and that it adds up
pub mod Deciding
pub mod Adding
-- what is promised has one outcome only
pub mod Unique
pub mod Theorems
