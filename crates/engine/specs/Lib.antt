-- What the calls from Rust promise, and what the theorems say of them: the part of this crate to believe.
pub mod Calls
pub mod Returned
pub mod Refused
