-- what a check answers
pub mod Checked
