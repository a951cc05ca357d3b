-- The number of each kind of row.
pub mod RowKind
