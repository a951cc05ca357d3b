-- loops that write the results, row by row
pub mod Rewriting
-- strict queries
pub mod StrictReplies
-- all rows together
pub mod Report
-- the count of yes
pub mod Counting
