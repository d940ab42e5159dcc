-- The front page of the clause check's laws: what the layers above may cite. Each is stated in specs/ and proved in the file named.
-- Of the verdict of any pane and glass: the first clause that fails, larger constants, the stock, panes that are no ribbons.
pub use Rattle.clauses.proofs.VerdictLaws.{verdict_laws}
-- Of cut size and sight size: clauses 3 and 4 read neither sheet nor cover, and no failure by sight size turned into a pass.
pub use Rattle.clauses.proofs.SightLaws.{sight_laws}
-- Of panes by wind class: the verdict is that of the pane with their pressures, whose numbers are allowed.
pub use Rattle.clauses.proofs.WindLaws.{wind_laws}
pub use Rattle.uniform_load.proofs.AsPressures.{as_pressures_laws}
-- The answer to a question about an accepted file, by the places of the two ids, and by the pane and the glass that have them.
pub use Rattle.clauses.proofs.Answers.{answer_placed, answer_found}
