-- Matchings of panes and glasses by numbers; all of it serves code and proofs.
pub mod Internal
