-- The tables, entry by entry. One test, computed over the 192, compares each with the count of steps that the code holds for it, and with
-- every entry of its table and load that is no thinner and in no later column. What selects an entry is within the test's bounds.
--     counted    a span is 5 times the code's count
--     ordered    a span of a thickness and a column that are no thinner and no later is no smaller
use Prim.Native.Nat.{ℕ, ◌+◌, ◌*◌, ◌≤◌, ◌<◌}
use mathlib.Core.Path.{◌≡◌, refl}
use mathlib.Core.Bool.{Bool, true, not, ◌&&◌, ◌||◌}
use mathlib.Core.List.{[]}
use native.Mathlib.Omega.{arith}
use borrow.Author.Tests.{eqb-true, leb-true, le-leb}
use lib.Dec.{leb, eqb}
use lib.ListN.{get_or}
use Rattle.std.proofs.lemmas.Bool.{and_parts}
use Rattle.ranges.specs.Internal.Counts.{all_to}
use Rattle.ranges.proofs.All.{all_at}
use Rattle.span_table.specs.Columns.{column_number}
use Rattle.span_table.specs.Spans.{spans, table_number, load_number, thickness_number, max_span}
use Rattle.span_table.proofs.Rows.{table_high, load_high, thickness_high}
use Rattle.span_table.specs.declared.Column.{Column}
use Rattle.span_table.specs.declared.TheConstants.{SPANS_IN_STEPS}

abbrev entry : (table load thickness column : ℕ) → ℕ
entry table load thickness column = get_or (get_or spans (12 * table + (4 * load + thickness)) []) column 0

abbrev pub count : (table load thickness column : ℕ) → ℕ
count table load thickness column = get_or (get_or (get_or SPANS_IN_STEPS (3 * table + load) []) thickness []) column 0

abbrev is_counted : (table load thickness column : ℕ) → Bool
is_counted table load thickness column =
    eqb (5 * count table load thickness column) (entry table load thickness column)

abbrev is_ordered : (table load thin later thick column : ℕ) → Bool
is_ordered table load thin later thick column =
    not (leb thin thick && leb column later) || leb (entry table load thin later) (entry table load thick column)

abbrev are_ordered : (table load thin later thick : ℕ) → Bool
are_ordered table load thin later thick = all_to (is_ordered table load thin later thick) 4

abbrev entry_holds : (table load thickness column : ℕ) → Bool
entry_holds table load thickness column =
    is_counted table load thickness column && all_to (are_ordered table load thickness column) 4

abbrev row_holds : (table load thickness : ℕ) → Bool
row_holds table load thickness = all_to (entry_holds table load thickness) 4

abbrev load_holds : (table load : ℕ) → Bool
load_holds table load = all_to (row_holds table load) 4

abbrev table_holds : ℕ → Bool
table_holds table = all_to (load_holds table) 3

all_hold : all_to table_holds 4 ≡ true
unfolding spans all_to
all_hold = refl

place_high : (column : Column) → column_number column < 4
place_high column = grind arith

module _ (kind load thick : ℕ) (column : Column) where
  holds : entry_holds (table_number kind) (load_number load) (thickness_number thick) (column_number column) ≡ true
  holds =
      let of_table = all_at _ 4 all_hold _ (table_high kind) in
      let of_load = all_at _ 3 of_table _ (load_high load) in
      let of_row = all_at _ 4 of_load _ (thickness_high thick) in
      all_at _ 4 of_row _ (place_high column)

  pub counted : 5 * count (table_number kind) (load_number load) (thickness_number thick) (column_number column) ≡ max_span kind load thick column
  counted = eqb-true _ _ (and_parts _ _ holds).0

  pub ordered :
      (thicker : ℕ) (earlier : Column) →
      thickness_number thick ≤ thickness_number thicker → column_number earlier ≤ column_number column →
      max_span kind load thick column ≤ max_span kind load thicker earlier
  ordered thicker earlier h k =
      let test = is_ordered (table_number kind) (load_number load) (thickness_number thick) (column_number column) (thickness_number thicker) in
      let of_row = all_at _ 4 (and_parts _ _ holds).1 _ (thickness_high thicker) in
      let of_entry = all_at test 4 of_row _ (place_high earlier) in
      leb-true _ _ (rw (le-leb _ _ h, le-leb _ _ k) at of_entry)
