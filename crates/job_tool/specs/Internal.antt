-- What reading a file leaves.
pub mod Leaves
-- The words for a file that was not read.
pub mod Words
