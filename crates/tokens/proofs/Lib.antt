-- Laws of what is seen.
pub mod Gaps
pub mod Runs
pub mod Seeing
