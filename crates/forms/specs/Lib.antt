-- What starts a concept: `form_at` and what it cites are to be believed.
pub mod Forms
-- the reading up to its first side, and what a number stands for
pub mod Opened
