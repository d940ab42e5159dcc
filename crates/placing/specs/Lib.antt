-- Which glass passes for which pane, and what is to be placed of a file.
pub mod FileSchedule
-- What the call `place` promises.
pub mod Promise
-- What follows from the promise.
pub mod Laws
pub mod Internal
