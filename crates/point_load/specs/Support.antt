-- Documents 01 and 02, "The four clauses", clause 3: the column that a pane reads, and its span.
use Rattle.std.specs.Prelude.{ℕ, ◌*◌, min, max, ◌||◌, leb, eqb, if◌then◌else◌}
use Rattle.job_pane.specs.Ribbon.{is_ribbon}
use Rattle.job_pane.specs.declared.Pane.{Pane}
use Rattle.span_table.specs.declared.Column.{Column}
use Rattle.span_table.specs.declared.Column.TheVariants.{Ar1, Ar2, Ar3, TwoEdge}

-- Two edges have a column of that name, and a ribbon reads it too. Else the column says how long the pane is for its width.
unfoldable pub column_of : Pane → Column
column_of p =
    if eqb p.edges 2 || is_ribbon p then TwoEdge
    else if eqb p.w p.h then Ar1
    else if leb (max p.w p.h) (2 * min p.w p.h) then Ar2
    else Ar3

-- The span B: between the two supports, or else along the shorter side.
abbrev pub span_of : Pane → ℕ
span_of p = if eqb p.edges 2 then p.w else min p.w p.h
