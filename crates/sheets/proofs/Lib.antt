-- Laws of score sheets. A reader starts at Theorems.
-- the sheets of a text, from its front
pub mod Sheets
-- scores, and a class along its text
pub mod Scores
pub mod Class
-- a text falls into sheets in one way
pub mod Splitting
-- and is accepted or refused; worked examples
pub mod Deciding
pub mod Examples
pub mod Theorems
