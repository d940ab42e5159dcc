-- The panes whose passing glasses are all tight are a group that lacks a sheet for each pane left over. It lacks no fewer: a glass that
-- suits one of them is tight, and the search promises that the tight glasses have so many sheets fewer than there are such panes. No group
-- lacks more.
--     tight_panes    they are panes, each once
--     tight_whole    they lack so many sheets
use Prim.Native.Nat.{ℕ, ◌+◌, ◌-◌, ◌≤◌, ◌<◌}
use mathlib.Core.Path.{◌≡◌, refl, sym, ◌∙◌}
use mathlib.Core.Bool.{Bool, true, false, ◌&&◌}
use mathlib.Core.List.{List}
use native.Mathlib.Omega.{arith}
use native.Mathlib.Nat.{le_trans}
use lib.ListN.{length, get_or}
use Rattle.std.specs.Prelude.{Option, if◌then◌else◌}
use Rattle.std.proofs.lemmas.Bool.{and_parts}
use Rattle.ids.specs.Ids.{among}
use Rattle.rising_ids.proofs.Listing.{list_length}
use Rattle.rising_ids.proofs.OneOf.{OneOf, list_among, list_at, list_once}
use Rattle.ranges.proofs.Any.{any_found}
use Rattle.ranges.proofs.Sums.{sum_le, sum_wider}
use Rattle.glass_set.specs.Internal.Member.{has, is_within}
use Rattle.glass_set.proofs.Members.{within_at}
use Rattle.matching.specs.Internal.Matching.{sheets_of, Greatest}
use Rattle.matching.specs.Internal.Rows.{task_of, way_of}
use Rattle.row_placing.specs.Schedule.{Schedule}
use Rattle.row_placing.specs.Internal.Entries.{entries_held}
use Rattle.row_placing.specs.Placing.{nonzero}
use Rattle.row_placing.specs.ShortGroup.{suits, sheets_for, PaneId, PaneGroup, lacking}
use Rattle.row_placing.specs.Internal.Stated.{Stated}
use Rattle.row_placing.specs.Internal.Steps.{confined_to, confined_ids}
use Rattle.row_placing.proofs.Numbers.{same_pane}
use Rattle.row_placing.proofs.Bridge.{bit_of_glass, is_placing, placed_served, placed_le}
use Rattle.row_placing.proofs.PlacingLaws.{group_bound}

-- What a glass adds to the sheets: its own if it is counted.
part_le : (a c : Bool) (x y : ℕ) → (a ≡ true → c ≡ true) → x ≡ y → (if a then x else 0) ≤ (if c then y else 0)
part_le true c x y h e = rw (h refl) (omega arith)
part_le false c x y h e = omega arith

module _
    {s : Schedule} {rows sheets64 glass_ids pane_ids : List ℕ} (b : Stated s rows sheets64 glass_ids pane_ids)
  where
    module _ (tight : ℕ) where
      abbrev group : List ℕ
      group = confined_ids pane_ids rows tight

      -- A glass that suits the group is tight.
      suits_tight : (j : ℕ) → j < length s.glass_ids → suits s group j ≡ true → has tight j ≡ true
      suits_tight j l suited =
          let f = any_found (λ p. among (get_or s.pane_ids p 0) group && s.passes p j) (length s.pane_ids) suited in
          let both = and_parts (among (get_or s.pane_ids f.number 0) group) (s.passes f.number j) f.passed in
          let m = list_among (λ p. get_or pane_ids p 0) (confined_to rows tight) (length rows) (get_or s.pane_ids f.number 0) both.0 in
          let here : m.number < length s.pane_ids = omega (arith, m.below, b.a_row_each) in
          let id = sym (b.pane_ids_are m.number here) ∙ m.is_id in
          let same = same_pane b.known m.number f.number here f.below id in
          let row = get_or rows f.number 0 in
          let all : is_within row tight ≡ true = rw same at m.passed in
          within_at row tight all j (omega (arith, b.known.few)) (bit_of_glass b f.number j f.below l both.1)

      -- So the group has no more sheets than the tight glasses have.
      sheets_fewer : sheets_for s group ≤ sheets_of (task_of rows sheets64) (has tight)
      sheets_fewer =
          le_trans
          (sum_le
          (λ j. if suits s group j then get_or s.sheets j 0 else 0)
          (λ j. if has tight j then get_or sheets64 j 0 else 0)
          (length s.glass_ids)
          (λ j l. part_le _ _ _ _ (suits_tight j l) (sym (b.sheets_are j l))))
          (sum_wider (λ j. if has tight j then get_or sheets64 j 0 else 0) (length s.glass_ids) 64 b.known.few)

      id_at : (p : ℕ) → p < length rows → get_or pane_ids p 0 ≡ get_or s.pane_ids p 0
      id_at p l = b.pane_ids_are p (omega (arith, b.a_row_each))

      pub tight_panes : PaneGroup s (confined_ids pane_ids rows tight)
      tight_panes = record {
        of_panes = λ k l. of_panes (list_at (λ p. get_or pane_ids p 0) (confined_to rows tight) (length rows) k l);
        each_once = list_once (λ p. get_or pane_ids p 0) (confined_to rows tight) (length rows) one_pane;
      }
        where
          one_pane : (p q : ℕ) → p < length rows → q < length rows → get_or pane_ids p 0 ≡ get_or pane_ids q 0 → p ≡ q
          one_pane p q l k e =
              same_pane b.known p q (omega (arith, b.a_row_each)) (omega (arith, b.a_row_each))
              (sym (id_at p l) ∙ e ∙ id_at q k)

          of_panes : {id : ℕ} → OneOf (λ p. get_or pane_ids p 0) (confined_to rows tight) (length rows) id → PaneId s id
          of_panes m = record {
            place = m.number;
            within = omega (arith, m.below, b.a_row_each);
            is_id = sym (id_at m.number m.below) ∙ m.is_id;
          }

      module _
          (held : List (Option ℕ))
          (long : length held ≡ length s.pane_ids)
          (best : Greatest (task_of rows sheets64) (way_of held) (has tight))
        where
          -- The group has more panes than the tight glasses have sheets, by the panes that are not served.
          tight_short :
              length group + nonzero (entries_held s.glass_ids held)
              ≡ sheets_of (task_of rows sheets64) (has tight) + length s.pane_ids
          tight_short =
              omega (
                arith,
                list_length (λ p. get_or pane_ids p 0) (confined_to rows tight) (length rows),
                best.shortage,
                placed_served b held tight long best,
                b.a_row_each,
              )

          pub tight_whole :
              lacking s (confined_ids pane_ids rows tight) ≡ length s.pane_ids - nonzero (entries_held s.glass_ids held)
          tight_whole =
              omega (
                arith,
                tight_short,
                sheets_fewer,
                placed_le b held tight long best,
                group_bound s (entries_held s.glass_ids held) (is_placing b held tight long best) group tight_panes,
              )
