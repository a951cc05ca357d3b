-- Demand 3, and what an evaluation comes to. A reader starts at Theorems.
pub mod TextClosure
pub mod Evaluating
-- the order is that of the text's lines
pub mod Ranked
-- what is promised has one outcome only
pub mod Unique
-- and what is lent beyond what is asked plays no part
pub mod Longer
pub mod Theorems
