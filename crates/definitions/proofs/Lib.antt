-- rows that have room
pub mod Room
