-- Laws of clause 3 about ribbons. Before document 02, 2026-01, they were refused, and the column knew none.
use Rattle.std.specs.Prelude.{◌*◌, ◌≤◌, min, max, ◌≡◌, true, false, leb, eqb, if◌then◌else◌}
use Rattle.job_glass.specs.declared.Glass.{Glass}
use Rattle.job_pane.specs.declared.Pane.{Pane}
use Rattle.job_pane.specs.Ribbon.{is_ribbon}
use Rattle.span_table.specs.declared.Column.{Column}
use Rattle.span_table.specs.declared.Column.TheVariants.{Ar1, Ar2, Ar3, TwoEdge}
use Rattle.point_load.specs.LiveLoad.{live_load}
use Rattle.point_load.specs.Support.{column_of, span_of}
use Rattle.point_load.specs.PointLoad.{span_entry, point_load_fails}

-- The column where there is no ribbon.
abbrev pub column_before : Pane → Column
column_before p =
    if eqb p.edges 2 then TwoEdge
    else if eqb p.w p.h then Ar1
    else if leb (max p.w p.h) (2 * min p.w p.h) then Ar2
    else Ar3

-- Two panes have the same live load.
abbrev pub SameLoad : (p q : Pane) → Type 0
SameLoad p q = live_load p.angle p.awning ≡ live_load q.angle q.awning

pub record RibbonLaws (p : Pane) : Type 0 where
  -- of a pane that is no ribbon the column did not change
  pub column_kept : is_ribbon p ≡ false → column_of p ≡ column_before p
  -- a ribbon reads the two-edge column, and its span is its shorter side
  pub ribbon_column : is_ribbon p ≡ true → column_of p ≡ TwoEdge
  pub ribbon_span : is_ribbon p ≡ true → span_of p ≡ min p.w p.h
  -- a ribbon's entry is never above that of another column, so not above that of AR=3
  pub entry_low :
      is_ribbon p ≡ true → (column : Column) (g : Glass) → span_entry (column_of p) p g ≤ span_entry column p g
  -- where a ribbon passes with a glass, no pane of the same load, and of that span or less, fails with it
  pub no_wider :
      is_ribbon p ≡ true → (q : Pane) (g : Glass) → SameLoad p q → span_of q ≤ span_of p →
      point_load_fails p g ≡ false → point_load_fails q g ≡ false
