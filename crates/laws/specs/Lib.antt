-- What the laws of rational closure cite beside the definitions of crate semantics. No contract does.
pub mod Habits
pub mod NextPass
pub mod Existence
