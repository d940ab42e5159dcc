-- The promise of `place_rows`, from what each part of it leaves: the search, the answers and the group. The group lacks a sheet for each
-- pane left over, and no group lacks more than any placing leaves over: so no placing places more.
--     rows_full     every pane is placed
--     rows_short    a pane is left over, and the group is written
use Prim.Native.Nat.{ℕ, ◌-◌, ◌≤◌}
use mathlib.Core.Path.{◌≡◌, refl, ap, sym, subst, ◌∙◌}
use mathlib.Core.Logic.{◌⊎◌, inl, inr}
use mathlib.Core.Bool.{Bool, true, false}
use mathlib.Core.List.{List, []}
use native.Mathlib.Omega.{arith}
use lib.Dec.{eqb}
use lib.ListN.{length, length-map, get_or, get_or-eq_default}
use borrow.Author.Tests.{eqb-true, eq-eqb, ne_eqb}
use Rattle.std.specs.Prelude.{Option, if◌then◌else◌}
use Rattle.ids.specs.Ids.{Distinct}
use Rattle.rising_ids.specs.Rises.{Rises}
use Rattle.rising_ids.specs.Internal.Listing.{rising, Listed}
use Rattle.rising_ids.proofs.Rising.{rising_rises}
use Rattle.glass_set.specs.Internal.Member.{has}
use Rattle.matching.specs.Internal.Matching.{Greatest}
use Rattle.matching.proofs.Ways.{entries_are}
use Rattle.matching.specs.Internal.Rows.{task_of, way_of}
use Rattle.row_placing.specs.Schedule.{Schedule}
use Rattle.row_placing.specs.Internal.Entries.{entry_held, entries_held}
use Rattle.row_placing.specs.Placing.{nonzero, Placing}
use Rattle.row_placing.specs.ShortGroup.{PaneGroup, lacking, ShortGroup}
use Rattle.row_placing.specs.Glazing.{Glazing}
use Rattle.row_placing.specs.Internal.Holding.{PassingNumber, Holding}
use Rattle.row_placing.specs.Internal.Stated.{Stated}
use Rattle.basics.specs.Lent.{Lent, Wrote}
use Rattle.basics.specs.Internal.Arrays.{written}
use Rattle.row_placing.specs.Internal.Promise.{RowsGlazed}
use Rattle.row_placing.specs.Internal.Steps.{Answered, confined_ids, group_due}
use Rattle.row_placing.specs.declared.PlaceCounts.{PlaceCounts}
use Rattle.row_placing.proofs.Entries.{held_same}
use Rattle.row_placing.proofs.Ids.{nonzero_le}
use Rattle.basics.proofs.Lent.{wrote}
use Rattle.row_placing.proofs.Bridge.{each_held, is_placing, none_spare}
use Rattle.row_placing.proofs.Shortage.{tight_panes, tight_whole}
use Rattle.row_placing.proofs.Risen.{risen_panes, risen_lacking}
use Rattle.row_placing.proofs.PlacingLaws.{placing_laws}
use Rattle.row_placing.proofs.Writes.{group_few}

module _
    (rows sheets64 glass_ids pane_ids : List ℕ)
    (held : List (Option ℕ))
    (tight : ℕ)
    (long : length held ≡ length rows)
    (sized : length glass_ids ≡ 64)
    (best : Greatest (task_of rows sheets64) (way_of held) (has tight))
    (answers group : Lent)
    (placed : ℕ)
    (answered : Answered glass_ids held answers placed)
  where
    -- The result, with a group of so many.
    abbrev counted : ℕ → PlaceCounts
    counted count = record { wanted = length rows; placed = placed; group = count }

    answers_are : Wrote (entries_held glass_ids held) answers
    answers_are = wrote (entries_held glass_ids held) answers answered.answers_are

    few_placed : placed ≤ length rows
    few_placed =
        let most = nonzero_le (entries_held glass_ids held) (length rows) (length-map held (entry_held glass_ids) ∙ long) in
        omega (arith, answered.placed_is)

    module _ (s : Schedule) (b : Stated s rows sheets64 glass_ids pane_ids) where
      as_many : length held ≡ length s.pane_ids
      as_many = long ∙ b.a_row_each

      -- The ids of the glasses held are the schedule's: each is one of its glasses.
      same_ids : entries_held glass_ids held ≡ entries_held s.glass_ids held
      same_ids =
          held_same glass_ids s.glass_ids held (omega arith) b.known.few
          (λ p l. go p (each_held b held tight as_many best p (omega (arith, as_many))))
        where
          go :
              (p : ℕ) → (way_of held p ≡ 64) ⊎ PassingNumber s p (way_of held p) →
              get_or glass_ids (way_of held p) 0 ≡ get_or s.glass_ids (way_of held p) 0
          go p (inl none) =
              get_or-eq_default glass_ids 0 (omega (arith, none))
              ∙ sym (get_or-eq_default s.glass_ids 0 (omega (arith, none, b.known.few)))
          go p (inr is) = b.glass_ids_are (way_of held p) is.within

      placed_is : placed ≡ nonzero (entries_held s.glass_ids held)
      placed_is = answered.placed_is ∙ ap nonzero same_ids

      -- A group that lacks a sheet for each pane left over is what the placing is to give, if it is empty where there is none.
      module _
          (listed : List ℕ)
          (equal : placed ≡ length rows → listed ≡ [])
          (up : Rises listed)
          (panes : PaneGroup s listed)
          (whole : lacking s listed ≡ length s.pane_ids - placed)
        where
          -- No placing leaves fewer panes over.
          no_fewer_over : (other : List ℕ) → Placing s other → length s.pane_ids - placed ≤ length s.pane_ids - nonzero other
          no_fewer_over other is = rw (← whole) ((placing_laws s).lacking_most other listed is panes)

          short : (placed ≡ length s.pane_ids → ⊥) → ShortGroup s listed
          short left =
              record {
                not_empty = omega (arith, whole, few_placed, left, b.a_row_each);
                some_panes = panes;
                short = omega (arith, whole, few_placed, left, b.a_row_each);
              }

          glazing : Glazing s (entries_held s.glass_ids held) listed placed
          glazing = record {
            placing = is_placing b held tight as_many best;
            none_to_spare = none_spare b held tight as_many best;
            placed_is = placed_is;
            all_placed =
                λ e.
                record {
                  ids = entries_held s.glass_ids held;
                  placing = is_placing b held tight as_many best;
                  every_pane = sym placed_is ∙ e;
                };
            all_placeable =
                λ full. omega (arith, few_placed, b.a_row_each, no_fewer_over full.ids full.placing, full.every_pane);
            most_placed = λ other is. omega (arith, no_fewer_over other is, (placing_laws s).at_most other is);
            if_equal = λ e. equal (e ∙ sym b.a_row_each);
            if_less = short;
            rises = up;
            whole_shortage = whole;
            no_more_lacking =
                λ other is.
                rw placed_is
                ((placing_laws s).lacking_most (entries_held s.glass_ids held) other (is_placing b held tight as_many best) is);
          }

      holding : Holding s held (entries_held s.glass_ids held)
      holding = record { one_each = as_many; each = each_held b held tight as_many best; ids_are = refl }

    -- What the group list is to get where all panes are placed, and where one is left over; at most an id for each pane.
    abbrev due : List ℕ
    due = group_due placed pane_ids rows tight

    due_none : placed ≡ length rows → due ≡ []
    due_none all = rw (eq-eqb placed (length rows) all)

    due_group : (placed ≡ length rows → ⊥) → due ≡ rising (confined_ids pane_ids rows tight)
    due_group left = rw (ne_eqb placed (length rows) left)

    due_few : length due ≤ length rows
    due_few = go (eqb placed (length rows))
      where
        go : (all : Bool) → length (if all then [] else rising (confined_ids pane_ids rows tight)) ≤ length rows
        go true = omega arith
        go false = group_few pane_ids rows tight

    due_rises : Rises due
    due_rises = go (eqb placed (length rows))
      where
        go : (all : Bool) → Rises (if all then [] else rising (confined_ids pane_ids rows tight))
        go true = λ k l. absurd (omega arith)
        go false = rising_rises (confined_ids pane_ids rows tight)

    module _ (s : Schedule) (b : Stated s rows sheets64 glass_ids pane_ids) where
      due_panes : PaneGroup s due
      unfolding Distinct
      due_panes = go (eqb placed (length rows))
        where
          go : (all : Bool) → PaneGroup s (if all then [] else rising (confined_ids pane_ids rows tight))
          go true = record { of_panes = λ k l. absurd (omega arith); each_once = tt }
          go false = risen_panes b.known (confined_ids pane_ids rows tight) (tight_panes b tight)

      due_whole : lacking s due ≡ length s.pane_ids - placed
      due_whole = go (eqb placed (length rows)) refl
        where
          go :
              (all : Bool) → eqb placed (length rows) ≡ all →
              lacking s (if all then [] else rising (confined_ids pane_ids rows tight)) ≡ length s.pane_ids - placed
          go true is = omega (arith, eqb-true placed (length rows) is, b.a_row_each)
          go false is =
              risen_lacking b.known (confined_ids pane_ids rows tight) (tight_panes b tight)
              ∙ tight_whole b tight held (as_many s b) best
              ∙ ap (λ (n : ℕ). length s.pane_ids - n) (sym (placed_is s b))

    -- The promise is kept if that is what was written.
    kept :
        group.after ≡ written due group.before →
        RowsGlazed rows sheets64 glass_ids pane_ids held (counted (length due)) answers group
    kept is = record {
      of_any =
          λ s b.
          record {
            glazed = record {
              ids = entries_held s.glass_ids held;
              group_ids = due;
              glazing = glazing s b due due_none due_rises (due_panes s b) (due_whole s b);
              wanted_is = b.a_row_each;
              group_is = refl;
              answers_written = subst (λ (ids : List ℕ). Wrote ids answers) (same_ids s b) answers_are;
              group_written = wrote due group is;
            };
            holding = holding s b;
          };
      wanted_is = refl;
      tight = tight;
      held_greatest = best;
      held_are = entries_are rows sheets64 held (has tight) best;
      answers_are = answers_are;
      placed_is = answered.placed_is;
      few_placed = few_placed;
      group_is = refl;
      group_are = wrote due group is;
      few_listed = due_few;
    }

    pub rows_full :
        group.after ≡ group.before → placed ≡ length rows →
        RowsGlazed rows sheets64 glass_ids pane_ids held (counted 0) answers group
    rows_full same all =
        rw (ap length (due_none all)) at (kept (rw (due_none all) same))

    pub rows_short :
        (count : ℕ) → (placed ≡ length rows → ⊥) → Listed (rising (confined_ids pane_ids rows tight)) group count →
        RowsGlazed rows sheets64 glass_ids pane_ids held (counted count) answers group
    rows_short count left g =
        rw (g.count_is ∙ ap length (sym (due_group left))) (kept (rw (due_group left) g.entries_are))
