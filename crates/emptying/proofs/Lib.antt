-- a set that takes columns, and what it ends with
pub mod Growth
-- exact columns of the grown rows
pub mod Grown
