-- Bits of words; all of it serves code and proofs.
pub mod Internal
