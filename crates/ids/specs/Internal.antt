-- Sets of ids as bits.
pub mod IdSets
