-- The numbers that a reading gives out. Theorems say what reading is worth, so nobody has to believe this.
pub mod State
pub mod Names
pub mod Lent
