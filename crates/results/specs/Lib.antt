-- What the contracts of this crate cite. Only inner functions of the layers above rest on it; nobody has to believe it.
pub mod Results
pub mod Found
