-- Theorems on reading: what `read_text`, the definition that `read_text` meets, accepts, numbers and refuses. A reader starts at Theorems.
-- A text is written by lines that keep the bytes of their parts (crate semantics, Source.antt). Of a word, a gap and a letter these files use the laws
-- (Spelling, Gaps, Letters there). Where the reader or the automaton meets a part, its bytes are looked at: a word in `word_is` (BytesAt), a gap in GapReading,
-- a letter in `lettered` (SoundReader), `letter_kind` and `line_ahead` (CompleteLines), `letter_justified` (JustifiedText), `letter_taken` (AutomatonTakes) and
-- `letter_full` (SameConcept).
--
-- What leads where:
--     acceptance, the numbers and the rows    SoundLines (what is read is right) and CompleteLines (what is right is read) meet in AcceptsDecides
--     the place of 3                          an automaton takes every text that lines have (AutomatonTakes); the reader refuses by 3 where
--                                             it dies (AutomatonFollowed), so that no lines go on from there: SyntaxPlace
--     the places of 4 to 7, and what stands   the contexts of the part that is due (Contexts, OpenedContexts) go down with the reader; filled with
--     before any place                        a * or a role they are lines up to the place (CompletedPrefix, CompletedRole): JustifiedReader, JustifiedText
--     every refusal is right                  RefusalsRight puts the two together
--     one refusal at most                     texts that begin in the same way have the same part due (SamePrefix, SameConcept, SamePart), so what
--                                             exceeds a limit there stands in no lines within the limits (ExceedsNowhere): RefusalUnique
--     the finder                              a number's start is where its word first stands (FirstOccurrences), and which words
--                                             have numbers (StateWords); crate finder

-- how a reading goes on, by cases
pub mod ReaderCases
-- what stands at an offset, and ahead of it
pub mod BytesAt
pub mod WordRuns
pub mod BytesAhead
pub mod GapReading
-- the reader's state, and the names that it stands for
pub mod StateNames
pub mod ValidStates
pub mod FoundNumbers
pub mod AddedRows
pub mod StateWords
pub mod FirstOccurrences
-- numbers, depth and lengths of what is written
pub mod SyntaxMeasures
pub mod NumberingGrows
-- what is read is right
pub mod Readings
pub mod SoundSteps
pub mod SoundWords
pub mod SoundSides
pub mod SoundSigns
pub mod SoundReader
pub mod SoundLines
-- what is right is read
pub mod CompleteSteps
pub mod CompleteWords
pub mod CompleteReader
pub mod CompleteLines
-- a text is accepted exactly where it should be
pub mod AcceptsDecides
pub mod MarkedAccepted
-- the byte, or the end, at which a text is refused by 3
pub mod Automaton
pub mod AutomatonTakes
pub mod AutomatonFollowed
pub mod SyntaxPlace
-- what a refused text has before the place of its refusal, and at it
pub mod Contexts
pub mod OpenedContexts
pub mod Beginnings
pub mod CompletedPrefix
pub mod CompletedRole
pub mod ReachedPlaces
pub mod JustifiedSteps
pub mod JustifiedReader
pub mod JustifiedText
-- every refusal is right about its place
pub mod RefusalsRight
-- texts that begin in the same way, and so one refusal at most
pub mod SamePrefix
pub mod DepthUnique
pub mod SameConcept
pub mod SamePart
pub mod ExceedsNowhere
pub mod BetweenRefusals
pub mod RefusalUnique
-- the offsets of the definitions are those of the text
pub mod Offsets
-- all theorems, in reading order
pub mod Theorems
