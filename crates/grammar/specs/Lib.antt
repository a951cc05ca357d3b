-- What the theorems on reading say.
pub mod Limits
pub mod Accepted
pub mod ViablePrefix
pub mod Refused
pub mod Occurrences
-- what the theorem on the names of an accepted text cites beside that
pub mod StateNames
