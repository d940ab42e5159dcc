-- Every span is a multiple of 5 mm: 5 times the code's count.
use Prim.Native.Nat.{ℕ}
use native.Mathlib.Omega.{arith}
use Rattle.span_table.specs.InSteps.{InSteps}
use Rattle.span_table.proofs.Entries.{counted}
use Rattle.span_table.specs.declared.Column.{Column}

pub in_steps : (kind load thick : ℕ) (column : Column) → InSteps kind load thick column
in_steps kind load thick column = omega (arith, counted kind load thick column)
