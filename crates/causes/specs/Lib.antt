-- Documents 01 and 02, "What each cause gives": the causes and their numbers, and what a call answers.
pub mod Cause
pub mod Answer
-- What follows from the numbers.
pub mod Laws
pub mod Internal
