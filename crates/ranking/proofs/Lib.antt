-- after a pass that got stuck
pub mod Stuck
-- from pass to pass
pub mod Passes
-- all passes, with their buffers
pub mod AllPasses
