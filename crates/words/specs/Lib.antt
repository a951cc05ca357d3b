-- The bytes of a text. Theorems say what reading is worth; what is to be believed of this, docs/PROOFS.md says (`byte_at`, `class_of`, `word_length` of Bytes, nothing of Table).
pub mod Bytes
pub mod Table
