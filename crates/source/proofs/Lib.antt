-- lines one after another
pub mod Lines
-- the definition rows, and how many there are
pub mod Definitions
