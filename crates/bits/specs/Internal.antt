-- The bits of words.
pub mod Bit
