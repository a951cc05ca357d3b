-- which rows are active, by their levels
pub mod Active
-- levels within a pass
pub mod Levelled
-- lefts looked at
pub mod Lefts
-- what the levels say of a pass
pub mod Sets
-- lists with the same inclusions
pub mod Same
-- the lefts that go one level up
pub mod Rising
-- a pass while it runs
pub mod Running
