-- the search for a rank
pub mod Halving
-- ranks of numbers
pub mod Ranks
