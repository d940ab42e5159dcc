-- The text that `canopy` prints.
pub mod Text
-- What the call `report` promises.
pub mod Reported
pub mod Internal
