-- What the contracts of this crate cite beside the definitions of `semantics`, and what specs above cite; only inner functions rest on it.
pub mod Members
