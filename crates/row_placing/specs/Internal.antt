-- What `place_rows` promises, for any rows, sheets and ids.
pub mod Promise
-- Rows, sheets and ids that state a schedule.
pub mod Stated
-- Entries by their places, and a placing by the places of its glasses.
pub mod Entries
pub mod Holding
-- What the functions that `place_rows` calls ask and leave.
pub mod Steps
