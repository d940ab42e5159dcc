-- Laws of the bits of words.
pub mod Bits
