-- The rows so far, as the loops that build them leave them.
--     RowTo       the row of a pane, of the first glasses of a list
--     row_none    of no glass
--     RowsTo      the rows of the first panes
use Prim.Native.Nat.{ℕ, ◌<◌}
use mathlib.Core.Path.{◌≡◌, ◌∙◌}
use mathlib.Core.Bool.{◌&&◌}
use mathlib.Core.List.{List}
use native.Mathlib.Omega.{arith}
use lib.Dec.{ltb}
use lib.ListN.{length, get_or}
use borrow.Author.Tests.{le-ltb}
use Rattle.job_glass.specs.declared.Glass.{Glass}
use Rattle.job_pane.specs.declared.Pane.{Pane}
use Rattle.job_file.specs.Entries.{glass_at}
use Rattle.glass_set.specs.Internal.Member.{Members}
use Rattle.glass_set.proofs.Members.{has_none}
use Rattle.row_placing.specs.Schedule.{Schedule}
use Rattle.row_placing.specs.Internal.Stated.{RowOf}
use Rattle.placing.specs.FileSchedule.{passes_for}

abbrev pub RowTo : Pane → List Glass → ℕ → ℕ → Type 0
RowTo pane glasses n row = Members row (λ g. ltb g n && passes_for pane (glass_at glasses g))

pub row_none : (pane : Pane) (glasses : List Glass) → RowTo pane glasses 0 0
row_none pane glasses g l = has_none g ∙ rw (le-ltb g 0 (omega arith))

pub record RowsTo (s : Schedule) (n : ℕ) (rows : List ℕ) : Type 0 where
  pub long : length rows ≡ n
  pub each : (p : ℕ) → p < n → RowOf s p (get_or rows p 0)
