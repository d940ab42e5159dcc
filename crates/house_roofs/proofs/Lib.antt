-- What is to be placed is the same.
pub mod Roofs
-- So is what the calls answer or promise.
pub mod Answers
