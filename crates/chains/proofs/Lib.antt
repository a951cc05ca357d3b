-- parts of the links, and the chains among them
pub mod Parts
-- a word that stood before
pub mod Search
