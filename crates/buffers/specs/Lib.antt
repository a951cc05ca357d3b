-- What is lent for settling: the part of this crate to believe.
pub mod Buffers
pub mod Held
-- what only inner functions cite
pub mod Writing
