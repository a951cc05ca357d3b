-- depth of a concept
pub mod Depth
-- what the reading of a concept leaves
pub mod Ends
-- what a step of reading keeps of what it is lent
pub mod SameRoom
