-- What `convert` promises: the part of this crate to believe.
pub mod Contract
-- what only inner functions cite
pub mod Steps
