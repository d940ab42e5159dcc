-- Tests, and numbers by whether they are equal.
pub mod Tests
-- Lists that a caller lends.
pub mod Lent
