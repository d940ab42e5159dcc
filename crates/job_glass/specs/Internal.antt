-- The allowed values, as bounds.
pub mod Values
