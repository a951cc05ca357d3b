-- an exact table is sound and closed
pub mod Exact
-- a set on its way to the root: what it may take, one row after another, one number after another, and how long
pub mod Growth
pub mod Stepping
pub mod Visiting
pub mod Roots
pub mod Unfollowed
