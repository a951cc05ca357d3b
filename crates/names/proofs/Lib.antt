-- one step after another
pub mod Steps
-- what a step of reading leaves
pub mod Ends
-- the state when a link is put, and when a word has its number
pub mod Parts
