-- With more sheets a group still has no more panes placed than it has sheets: so as many are wanted as it lacks.
--     lacking_le    where so many more are enough, no group lacks more
use Prim.Native.Nat.{ℕ, ◌+◌, ◌≤◌}
use mathlib.Core.Path.{◌≡◌}
use mathlib.Core.Bool.{Bool, true, false}
use mathlib.Core.List.{List}
use native.Mathlib.Omega.{arith}
use lib.ListN.{length, get_or}
use Rattle.std.specs.Prelude.{if◌then◌else◌}
use Rattle.ranges.specs.Ranges.{sum_to}
use Rattle.ranges.proofs.Sums.{sum_le, sum_add}
use Rattle.row_placing.specs.Schedule.{Schedule}
use Rattle.row_placing.specs.ShortGroup.{suits, sheets_for, PaneGroup, lacking}
use Rattle.row_placing.specs.MissingSheets.{with_sheets, EnoughWith}
use Rattle.row_placing.proofs.PlacingLaws.{group_bound}

-- What a glass adds, with more sheets: at most all that are new.
new_ones : (b : Bool) (x y new : ℕ) → y ≡ x + new → (if b then y else 0) ≤ (if b then x else 0) + new
new_ones true x y new e = omega arith
new_ones false x y new e = omega arith

module _ {s : Schedule} (more : ℕ → ℕ) (enough : EnoughWith s more) (group : List ℕ) (panes : PaneGroup s group) where
  abbrev wider : Schedule
  wider = with_sheets s enough.sheets

  same_panes : PaneGroup wider group
  same_panes = record {
    of_panes = λ k l. let p = panes.of_panes k l in record { place = p.place; within = p.within; is_id = p.is_id };
    each_once = panes.each_once;
  }

  sheets_more : sheets_for wider group ≤ sheets_for s group + sum_to more (length s.glass_ids)
  sheets_more =
      omega (
        arith,
        sum_add (λ g. if suits s group g then get_or s.sheets g 0 else 0) more (length s.glass_ids),
        sum_le
            (λ g. if suits s group g then get_or enough.sheets g 0 else 0)
            (λ g. (if suits s group g then get_or s.sheets g 0 else 0) + more g)
            (length s.glass_ids)
            (λ g l. new_ones (suits s group g) (get_or s.sheets g 0) (get_or enough.sheets g 0) (more g) (enough.sheets_are g l)),
      )

  pub lacking_le : lacking s group ≤ sum_to more (length s.glass_ids)
  lacking_le =
      let full = enough.full in
      omega (arith, sheets_more, group_bound wider full.ids full.placing group same_panes, full.every_pane)
