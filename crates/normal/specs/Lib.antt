-- What inner functions of the layers above cite; nobody has to believe it.
pub mod Rules
