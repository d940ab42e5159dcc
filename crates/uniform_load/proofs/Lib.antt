-- How the maximum dead load is worked out, and how large the pressures of a wind can be.
pub mod Maximum
pub mod Bounds
-- What follows for panes with four edges, for panes by wind class, and of the loads that tempered glass had before.
pub mod FourEdges
pub mod AsPressures
pub mod LoadsBefore
-- How large the numbers of clause 4 are.
pub mod LoadBounds
