-- The laws of sets, for any number of words. A crate above this one cites them as Rattle.sets.proofs.Members and so on.
pub mod Bits
pub mod Members
pub mod Wordwise
