-- laws of sets, for any number of words
pub mod Search
pub mod Without
-- the measures
pub mod Size
pub mod Missing
