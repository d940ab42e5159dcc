-- What reading the trailer takes.
use Prim.Native.Nat.{ℕ, zero, suc, ◌+◌, ◌-◌, ◌*◌}
use mathlib.Core.List.{List}
use lib.ListN.{get_or}
use Rattle.std.proofs.Math.Bool.{and-false}

-- The number that the first `k` of some digits make.
abbrev pub made : ℕ → List ℕ → ℕ
made zero bytes = 0
made (suc k) bytes = made k bytes * 10 + (get_or bytes k 0 - 48)

-- What settles a test of many parts where a part fails.
pub ruleset tests = (and-false)
