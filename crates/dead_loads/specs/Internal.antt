-- What the code reads of the table at an angle.
pub mod Steps
