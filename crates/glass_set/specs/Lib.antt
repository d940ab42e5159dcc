-- Sets of glasses; all of it serves code and proofs.
pub mod Internal
