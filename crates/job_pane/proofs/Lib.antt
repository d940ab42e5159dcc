-- The pane of a line, and its allowed values.
pub mod Lines
pub mod Values
-- Any sides are allowed.
pub mod Sides
