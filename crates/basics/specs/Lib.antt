-- Lists that a caller lends.
pub mod Lent
pub mod Internal
