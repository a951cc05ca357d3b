-- Axioms, their texts, and where an input is no text of theirs: the part of this crate to believe.
pub mod Axiom
pub mod Book
pub mod Text
pub mod Refused
-- what the theorems on ranks and replies say
pub mod Closure
-- what only inner functions cite
pub mod Points
