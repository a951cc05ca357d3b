-- the loop that checks rows
pub mod Checking
