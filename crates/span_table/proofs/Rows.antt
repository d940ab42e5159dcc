-- What selects a row of the tables is within the table.
--     table_high, load_high, thickness_high    of a kind, a live load and a thickness
--     nominal_is                               the nominal thicknesses, by their rows: 2 mm apart
use Prim.Native.Nat.{ℕ, ◌+◌, ◌*◌, ◌<◌}
use mathlib.Core.Path.{◌≡◌}
use native.Mathlib.Omega.{arith}
use Rattle.span_table.specs.Spans.{table_number, load_number, thickness_number}
use Rattle.span_table.specs.SpanRule.{Nominal}

pub table_high : (kind : ℕ) → table_number kind < 4
table_high kind = grind arith

pub load_high : (load : ℕ) → load_number load < 3
load_high load = grind arith

pub thickness_high : (thick : ℕ) → thickness_number thick < 4
thickness_high thick = grind arith

pub nominal_is : (thick : ℕ) → Nominal thick → thick ≡ 6 + 2 * thickness_number thick
nominal_is thick n = grind arith
