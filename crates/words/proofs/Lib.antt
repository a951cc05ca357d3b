-- bytes, spaces and words within a text
pub mod Within
-- the table of byte classes
pub mod Table
