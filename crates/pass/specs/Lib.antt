-- What the contracts of this crate cite. Only inner functions of the layers above rest on it; nobody has to believe it.
pub mod Levels
pub mod Lefts
pub mod Passes
pub mod End
