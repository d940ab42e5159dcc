-- What the code finds of two ids, and what is answered by it.
pub mod Found
