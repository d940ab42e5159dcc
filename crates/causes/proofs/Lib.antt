-- What holds of the number of every cause.
pub mod Numbers
-- An answer tells the result.
pub mod Answers
