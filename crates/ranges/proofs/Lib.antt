-- Sums; counts; tests of every number below a bound, and of some number.
pub mod Sums
pub mod Counts
pub mod All
pub mod Any
