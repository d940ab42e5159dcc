-- The bench examples (a) to (j).
pub mod Examples
-- The files of those that are files, and what `canopy` prints of them.
pub mod Files
pub mod Texts
-- What calls leave that the examples don't show.
pub mod Calls
-- Figures and cases that tell a rule from another.
pub mod Cases
-- The rows of wind classes and of dead loads that document 02 states.
pub mod WindRows
pub mod TemperedRow
