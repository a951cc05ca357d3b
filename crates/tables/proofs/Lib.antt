-- The laws of tables, for any number of words.
pub mod Rows
