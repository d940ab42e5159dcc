-- What the words for people are made by; all of it serves the program.
pub mod Internal
