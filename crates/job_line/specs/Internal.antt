-- What reading at the front of some bytes answers.
pub mod Steps
