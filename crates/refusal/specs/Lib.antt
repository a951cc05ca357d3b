-- The numbers of the refusals.
pub mod Refusal
