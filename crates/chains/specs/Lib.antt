-- Lists of words with their numbers, and the chains of their hashes. Theorems say what reading is worth, so nobody has to believe this.
pub mod Sorts
pub mod WordList
pub mod Chains
