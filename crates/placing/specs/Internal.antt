-- The rows that are made of a job.
pub mod Steps
