-- Laws of rational closure. A reader starts at Theorems.
-- products of interpretations, on which the laws of habits and of emptied lefts rest
pub mod Product
-- what rules add to an element is told by the rules that fire at it
pub mod Habits
pub mod Deciding
-- what emptied lefts add to T, and levels from pass to pass
pub mod PassParts
pub mod Emptied
pub mod LaterPasses
-- what a concept usually is in a closure
pub mod RankedHabits
-- variants that are false
pub mod Misreadings
-- all laws, in reading order
pub mod Theorems
