-- Sums, and whether some number passes a test, below a bound.
pub mod Ranges
pub mod Internal
