-- The laws that crates above may cite.
pub mod Laws
-- Lists of numbers: entries at places, counts of ids, and ids by the numbers of glasses and panes.
pub mod Entries
pub mod Ids
pub mod Numbers
-- From what the search promises of numbers to what the promise says of ids.
pub mod Bridge
pub mod Shortage
pub mod Risen
-- What the code writes, entry by entry.
pub mod Writes
-- The promise of `place_rows`, from what its parts leave.
pub mod Glazing
-- Some panes of a schedule.
pub mod SomePanes
-- What follows from the definitions, of any schedule.
pub mod PlacingLaws
-- How many sheets are missing: no fewer, and no more.
pub mod MoreSheets
pub mod NewSheets
pub mod MissingSheets
