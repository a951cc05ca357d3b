-- What a call reports: the part of this crate to believe.
pub mod Reports
