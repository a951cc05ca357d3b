-- Which part of a text the finder gives, and that there is only one.
pub mod Spans
pub mod Unique
pub mod Empty
