-- Score sheets, their scores and their refusals: the part of this crate to believe.
pub mod Sheets
pub mod Refused
-- what the theorems on sheets say
pub mod Whole
-- what only inner functions cite
pub mod Steps
