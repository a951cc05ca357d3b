-- no two refusals have one number, and none has 0
pub mod Refusals
