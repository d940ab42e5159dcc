-- The front page of the placing's laws: what crates above may cite. Each is stated and proved in the file named.
-- Of a call of `place` that is not refused.
pub use Rattle.placing.proofs.Promises.{counted_of}
-- Of the sheets that are missing of a file.
pub use Rattle.placing.proofs.Shortages.{file_missing_sheets}
-- Of lists of answers.
pub use Rattle.row_placing.proofs.Laws.{nonzero_le}
