-- The loop's invariant of `part::read_part` is `Progress`: the rest of the part is read from here on, behind the entries that the list
-- already has.
use Prim.Native.Nat.{◌-◌}
use lib.ListN.{length}
use Rattle.job_part.proofs.Parts.{Progress}
use Rattle.job_part.proofs.part.read_part.Given as goal

abbrev pub invariant-loop-rest : goal.invariant-loop-rest
invariant-loop-rest g l = Progress g.E.Entry.form l.end l.part l.entries.items l.seen l.rest

abbrev pub decreases-loop-rest : goal.decreases-loop-rest
decreases-loop-rest g l = g.row.N - length l.entries.items
