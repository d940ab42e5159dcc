-- What the functions that write the text ask of its numbers.
pub mod Steps
