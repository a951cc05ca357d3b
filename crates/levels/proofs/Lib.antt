-- loops over the rows and their levels
pub mod Loops
