-- Laws of converting. A reader starts at Theorems.
-- what reading and writing come to
pub mod Converting
-- what is converted and what is refused, and that it has one outcome
pub mod Deciding
pub mod Unique
pub mod Theorems
