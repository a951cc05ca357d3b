-- What the contracts of this crate cite. Only inner functions of the layers above rest on it; nobody has to believe it.
pub mod Root
pub mod Found
-- what only this crate's own functions cite
pub mod Steps
