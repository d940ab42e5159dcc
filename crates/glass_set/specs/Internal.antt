-- A set of glasses as a word of 64 bits.
pub mod Member
