-- The laws about ribbons hold: what makes a pane a ribbon decides the tests of `column_of`; and in the tables the two-edge column, which
-- is the last, has the smallest entries.
--     ribbon_laws    as specs/RibbonLaws.antt states them
use Prim.Native.Nat.{◌≤◌, min}
use mathlib.Core.Path.{◌≡◌}
use mathlib.Core.Bool.{true, false}
use native.Mathlib.Omega.{arith}
use native.Mathlib.Nat.{le_trans}
use borrow.Author.Tests.{ltb-false, le-ltb}
use Rattle.job_glass.specs.declared.Glass.{Glass}
use Rattle.job_pane.specs.declared.Pane.{Pane}
use Rattle.job_pane.specs.Ribbon.{is_ribbon}
use Rattle.span_table.proofs.SpanRule.{span_rule}
use Rattle.point_load.specs.LiveLoad.{live_load}
use Rattle.span_table.specs.Columns.{column_number}
use Rattle.span_table.specs.declared.Column.{Column}
use Rattle.span_table.specs.declared.Column.TheVariants.{TwoEdge}
use Rattle.point_load.specs.Support.{column_of, span_of}
use Rattle.point_load.specs.PointLoad.{span_entry, point_load_fails}
use Rattle.point_load.specs.RibbonLaws.{column_before, SameLoad, RibbonLaws}

last : (column : Column) → column_number column ≤ column_number TwoEdge
last column = grind arith

module _ (p : Pane) where
  column_kept : is_ribbon p ≡ false → column_of p ≡ column_before p
  unfolding column_of
  column_kept e = grind arith

  module _ (ribbon : is_ribbon p ≡ true) where
    ribbon_column : column_of p ≡ TwoEdge
    unfolding column_of
    ribbon_column = grind arith

    ribbon_span : span_of p ≡ min p.w p.h
    ribbon_span = grind arith

    entry_low : (column : Column) (g : Glass) → span_entry (column_of p) p g ≤ span_entry column p g
    entry_low column g =
        rw ribbon_column
        ((span_rule g.kind (live_load p.angle p.awning)).along_columns g.thick column TwoEdge (last column))

    no_wider :
        (q : Pane) (g : Glass) → SameLoad p q → span_of q ≤ span_of p → point_load_fails p g ≡ false → point_load_fails q g ≡ false
    no_wider q g same narrow passes =
        let enough : span_of p ≤ span_entry (column_of p) p g = ltb-false _ _ passes in
        let entry : span_entry (column_of p) p g ≤ span_entry (column_of q) q g =
        rw (← same) (entry_low (column_of q) g) in
        le-ltb (span_entry (column_of q) q g) (span_of q) (le_trans narrow (le_trans enough entry))

  pub ribbon_laws : RibbonLaws p
  ribbon_laws = record {
    column_kept = column_kept;
    ribbon_column = ribbon_column;
    ribbon_span = ribbon_span;
    entry_low = entry_low;
    no_wider = no_wider;
  }
