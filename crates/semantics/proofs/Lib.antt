-- what a check of a test gives, kinds, and lists
pub mod Tests
pub mod RowKinds
pub mod Index
pub mod Filter
pub mod Like
-- rational closure: laws over any names
pub mod Consequence
pub mod Lines
pub mod Counting
pub mod Unique
pub mod Stuck
pub mod Levels
pub mod Replies
pub mod Keys
pub mod Progress
pub mod Exists
pub mod Transport
pub mod Twins
pub mod Rules
pub mod Order
pub mod Rename
pub mod OwnNames
-- the normal form keeps every result
pub mod Decided
pub mod Rows
pub mod Definitions
pub mod Lookup
pub mod NormalForm
pub mod Counts
-- texts: the laws of the parts, and that a text is written in one way
pub mod Spelling
pub mod Gaps
pub mod Letters
pub mod Reading
pub mod Plain
-- rows: packing, what is refused, what is left in the buffers
pub mod Packing
pub mod Compiling
pub mod Unpacking
pub mod Accepting
pub mod Outputs
pub mod RankOrder
-- saturation decides
pub mod Steps
pub mod Canonical
-- a proved evaluator, and P1 to P9
pub mod Evaluate
pub mod Tables
pub mod Evaluated
pub mod Saturation
pub mod Existence
pub mod Parse
pub mod Examples
pub mod Misreadings
-- all theorems, in reading order
pub mod Theorems
