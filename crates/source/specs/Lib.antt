-- Reading a text. `Lines` has what `read_text` promises; theorems say what that definition is worth, so nobody has to believe it.
pub mod Lines
-- what only inner functions cite
pub mod Steps
