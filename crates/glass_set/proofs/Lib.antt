-- Laws of sets of glasses.
pub mod Members
