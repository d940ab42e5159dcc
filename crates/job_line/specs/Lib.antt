-- Document 01, "The job file": numbers and lines.
pub mod Bytes
pub mod Number
pub mod Line
-- How numbers are written.
pub mod WrittenNumber
pub mod Internal
