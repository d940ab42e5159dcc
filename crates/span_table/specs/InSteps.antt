-- Every span is a multiple of 5 mm. It is stated on the lookup, for any kind, live load, thickness and column; a dash
-- is 0.
use Rattle.std.specs.Prelude.{ℕ, ◌%◌, ◌≡◌}
use Rattle.span_table.specs.Spans.{max_span}
use Rattle.span_table.specs.declared.Column.{Column}

abbrev pub InSteps : (kind load thick : ℕ) → Column → Type 0
InSteps kind load thick column = max_span kind load thick column % 5 ≡ 0
