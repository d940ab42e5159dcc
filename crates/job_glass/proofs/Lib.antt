-- The glass of a line, and its allowed values.
pub mod Lines
pub mod Values
