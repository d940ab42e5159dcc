-- Counts and tests below a bound.
pub mod Counts
