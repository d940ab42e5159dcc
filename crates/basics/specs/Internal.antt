-- Lists as a call leaves them.
pub mod Arrays
