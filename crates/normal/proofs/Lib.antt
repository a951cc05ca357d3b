-- packed rows and levels
pub mod Decoding
pub mod Selected
-- active rows
pub mod Active
-- the rows, and what stuck ones add
pub mod Grown
