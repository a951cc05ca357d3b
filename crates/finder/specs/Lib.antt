-- What `find_name` promises.
pub mod Contract
