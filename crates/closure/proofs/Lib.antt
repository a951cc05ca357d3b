-- the report, put together
pub mod Reporting
-- the order goes by ranks
pub mod Ordered
-- what is promised has one outcome only
pub mod Unique
-- and what is lent beyond what is asked plays no part
pub mod Longer
