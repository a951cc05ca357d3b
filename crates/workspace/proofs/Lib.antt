-- the table before the first pass
pub mod Starting
