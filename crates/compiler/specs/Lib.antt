-- What `compile` promises, and what its refusals stand for: the part of this crate to believe.
pub mod Contract
pub mod Refused
-- what only inner functions cite
pub mod Steps
