-- What the reader says of the files.
pub mod Files
-- The job of (j), and the second file of (c): which answers keep the promise.
pub mod JobJ
pub mod JobC
-- The bench examples, all of them.
pub mod Examples
-- What `canopy` prints of them.
pub mod Texts
-- What calls leave that the examples don't show, and for it two panes without a glass.
pub mod EmptyRack
pub mod Calls
-- Figures and cases that tell a rule from another.
pub mod Cases
-- The rows of wind classes and of dead loads that document 02 states.
pub mod WindRows
pub mod TemperedRow
