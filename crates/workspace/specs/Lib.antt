-- What only inner functions cite.
pub mod Steps
