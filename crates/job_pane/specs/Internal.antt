-- The allowed values, as bounds.
pub mod Values
-- What reading a line of one letter promises.
pub mod Letters
