-- What the contracts of this crate cite. Only inner functions of the layers above rest on it; nobody has to believe it.
-- what is kept of a state of reading
pub mod Track
-- reading byte by byte over that
pub mod TrackReader
-- what inner functions keep
pub mod Steps
