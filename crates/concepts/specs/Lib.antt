-- Reading a concept. Theorems say what reading is worth, so nobody has to believe this.
pub mod Reader
