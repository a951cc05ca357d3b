-- what is due where a space is
pub mod Spaces
-- what a concept starts with stands within the text
pub mod Inside
