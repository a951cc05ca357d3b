pub mod Visiting
pub mod QueryReplies
