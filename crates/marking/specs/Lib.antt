-- What `mark` promises: the part of this crate to believe.
pub mod Contract
-- what the theorems on two markings say
pub mod Same
-- what only inner functions cite
pub mod Steps
