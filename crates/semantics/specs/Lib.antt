-- What a reader must believe, from the top: what a text means (Concept, Closure), how it is written (Source), the deck that it becomes (Row, Numbering),
-- what `classify` refuses and leaves (Refusals, Set, Outputs), the replies by which `mark` scores (Replies), the limits, and the marked examples.
pub mod Concept
pub mod Closure
pub mod Source
pub mod Row
pub mod Numbering
pub mod Limits
pub mod Refusals
pub mod Set
pub mod Outputs
pub mod Replies
pub mod Examples
-- What the theorems on plain texts and on a text's own names cite beside that. Demands cite the second, and no contract any.
pub mod PlainText
pub mod OwnNames
-- The row with given fields, and what loops keep on the way. Stated theorems and inner functions cite these; nobody has to believe them.
pub mod Decoding
pub mod Saturated
pub mod Progress
