-- the key, byte by byte, and what it comes to for the lines of a text
pub mod Keys
