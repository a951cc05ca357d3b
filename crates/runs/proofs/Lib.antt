-- Reading goes along tokens.
pub mod Words
pub mod Forks
pub mod Names
pub mod Alike
pub mod Seen
pub mod Levels
pub mod Goes
pub mod Reached
