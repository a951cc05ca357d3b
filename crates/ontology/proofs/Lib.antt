-- Laws of axioms and their texts. A reader starts at Theorems.
-- the book of axioms has their meaning
pub mod Meaning
-- and the rational closure that they have by themselves
pub mod Saying
-- it is a text of their lines
pub mod Written
-- reading by definitions that compute: tokens, every text of axioms is read, what is read is one
pub mod Reader
pub mod Tokens
pub mod Complete
pub mod Sound
-- where reading stops
pub mod Places
pub mod Deciding
-- worked examples
pub mod Examples
-- every theorem, with a citation each
pub mod Theorems
