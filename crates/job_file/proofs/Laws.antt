-- The front page of the reader's laws: what the layers above may cite. Each is stated and proved in the file named. A job's rules are its
-- ghost field `rules`.
pub use Rattle.job_file.proofs.Refused.{refused_within, not_refused_with_7}
-- Of lists that keep the rules: values and ids.
pub use Rattle.job_file.proofs.Accepted.{glass_values, pane_values, glass_ids, pane_ids}
