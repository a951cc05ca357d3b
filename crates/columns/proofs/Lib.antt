-- what the contracts give the layers above: a seeded start, the strict table, columns for more rows
pub mod Starting
pub mod ExactColumns
-- one column takes numbers
pub mod Joining
pub mod Marking
-- each column, and the table by rows
pub mod RowByRow
pub mod Clearing
pub mod Lowest
pub mod Turning
