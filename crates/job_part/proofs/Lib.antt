-- The place of an id among the ids of entries.
pub mod Places
-- How a line is judged, and the lines of a part one after the other.
pub mod Judging
pub mod Parts
pub mod Lists
-- What every taken line keeps, a whole part keeps.
pub mod Kept
pub mod Laws
-- What a caller learns of a part that was read.
pub mod Ends
