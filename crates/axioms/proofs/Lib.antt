-- What is kept goes along with the state of reading, and in the end its output is the book.
pub mod Tracks
pub mod TrackRuns
-- the output without its zeros
pub mod Compact
-- kinds of tokens
pub mod TokenKinds
-- the stack of an array
pub mod Stack
-- tokens as the code takes them
pub mod Takes
