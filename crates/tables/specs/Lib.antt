-- What the contracts of this crate cite: tables of sets.
pub mod Table
