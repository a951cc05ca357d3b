-- steps of the worklist, and the rules that are sound
pub mod Stepping
pub mod Soundness
-- what the rows ask, and each kind of row
pub mod Inferences
pub mod Applying
pub mod LeftsEmptied
pub mod RowsApplied
pub mod Draining
-- closed columns decide
pub mod Spreading
pub mod Closed
