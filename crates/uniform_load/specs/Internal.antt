-- What the code promises, step by step.
pub mod Steps
