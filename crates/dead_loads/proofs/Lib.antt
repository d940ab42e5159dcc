-- The rows of Table 6.1 by angle.
pub mod DeadLoads
-- How high its maxima are.
pub mod High
