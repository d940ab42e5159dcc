-- The front page: what crates above may cite.
pub mod Laws
-- The rows are the verdicts; rows, stocks and ids state the schedule of a job.
pub mod RowsSoFar
pub mod Schedules
-- Arrays that a closure makes.
pub mod Padded
-- The promise of the call, by what the file says.
pub mod Promises
-- How many sheets are missing of a file.
pub mod Shortages
