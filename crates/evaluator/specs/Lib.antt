-- What `evaluate` promises, and demand 3: the part of this crate to believe.
pub mod Contract
-- what the theorem that a sitting follows from its text says
pub mod Same
