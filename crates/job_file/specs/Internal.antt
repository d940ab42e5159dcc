-- A job as a value.
pub mod Job
-- A list in an array of fixed size.
pub mod Listed
-- Why jobs with the same lists are the same job.
pub mod OneProof
-- What reading the trailer promises.
pub mod Steps
