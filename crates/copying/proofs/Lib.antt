-- laws of lists that are written in place
pub mod Writing
