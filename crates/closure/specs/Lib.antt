-- What `classify` promises: the part of this crate to believe.
pub mod Contract
-- what the theorems on one outcome say
pub mod Same
