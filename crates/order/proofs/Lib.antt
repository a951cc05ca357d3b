-- what a test takes of a list
pub mod Chosen
-- the places of the defeasible rows
pub mod Places
-- the order of the ranks
pub mod Ranks
