-- The laws of the index. A crate above this one cites them as Rattle.index.proofs.Visit and so on.
pub mod Keys
pub mod Linking
pub mod Visit
