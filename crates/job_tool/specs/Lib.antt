-- What the programs share; all of it serves them.
pub mod Internal
