-- Document 01, "The four clauses", clause 3: what the tables keep to. For one kind and live load, a thicker glass spans no less, and
-- a later column gives no more. It is stated on the lookup, for any two nominal thicknesses and any two columns.
use Rattle.std.specs.Prelude.{ℕ, ◌≤◌, ◌≡◌, ◌⊎◌}
use Rattle.span_table.specs.Columns.{column_number}
use Rattle.span_table.specs.Spans.{max_span}
use Rattle.span_table.specs.declared.Column.{Column}

-- A nominal thickness of the tables, in mm.
abbrev pub Nominal : ℕ → Type 0
Nominal thick = (thick ≡ 6) ⊎ ((thick ≡ 8) ⊎ ((thick ≡ 10) ⊎ (thick ≡ 12)))

pub record SpanRule (kind load : ℕ) : Type 0 where
  pub with_thickness :
      (thin thick : ℕ) (column : Column) →
      Nominal thin → Nominal thick → thin ≤ thick → max_span kind load thin column ≤ max_span kind load thick column
  pub along_columns :
      (thick : ℕ) (column later : Column) →
      column_number column ≤ column_number later → max_span kind load thick later ≤ max_span kind load thick column
