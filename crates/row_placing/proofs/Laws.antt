-- The laws that crates above may cite.
--     nonzero_le              a list has no more entries that are not 0 than entries
--     entry_at                each of the entries of a list at some places
--     some_stated             some panes of a schedule are stated too, with other sheets
--     placing_laws            of any schedule: what a group says of every placing
--     missing_sheets          of what the placing gives: how many sheets are missing
pub use Rattle.row_placing.proofs.Ids.{nonzero_le}
pub use Rattle.row_placing.proofs.Entries.{entry_at}
pub use Rattle.row_placing.proofs.SomePanes.{some_stated}
pub use Rattle.row_placing.proofs.PlacingLaws.{placing_laws}
pub use Rattle.row_placing.proofs.MissingSheets.{missing_sheets}
