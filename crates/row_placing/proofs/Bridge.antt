-- From what the search promises of numbers to what the promise says of ids: the list of the ids of the glasses held is a
-- placing, with no sheet to spare where a pane is left over, and places the panes that the search serves.
--     bit_of_glass     a glass that passes has its bit set
--     each_held        a pane holds no glass, or one that passes for it
--     is_placing       the ids of the glasses held are a placing
--     placed_served    they place as many panes as the search serves
--     placed_le        they place no more panes than there are
--     none_spare       where a pane has 0, every sheet that it could have is given away
use Prim.Native.Nat.{ℕ, ◌≤◌, ◌<◌}
use mathlib.Core.Path.{◌≡◌, sym, ◌∙◌}
use mathlib.Core.Logic.{◌⊎◌, inl, inr}
use mathlib.Core.Bool.{true, not}
use mathlib.Core.List.{List}
use native.Mathlib.Nat.{eq-or-lt_of_le}
use native.Mathlib.Omega.{arith}
use lib.Dec.{ltb, eqb}
use lib.ListN.{length, get_or, length-map, get_or-eq_default}
use borrow.Author.Tests.{ltb-true, lt-ltb, ne_eqb}
use Rattle.std.specs.Prelude.{Option}
use Rattle.std.proofs.lemmas.Bool.{and_parts}
use Rattle.ranges.proofs.Counts.{count_same}
use Rattle.glass_set.specs.Internal.Member.{has}
use Rattle.matching.specs.Internal.Matching.{given, served, Greatest}
use Rattle.matching.specs.Internal.Rows.{task_of, way_of}
use Rattle.row_placing.specs.Schedule.{Schedule}
use Rattle.row_placing.specs.Internal.Entries.{entry_held, entries_held}
use Rattle.row_placing.specs.Placing.{times, nonzero, PassingId, Placing, NoneToSpare}
use Rattle.row_placing.specs.Internal.Holding.{PassingNumber}
use Rattle.row_placing.specs.Internal.Stated.{Stated}
use Rattle.row_placing.proofs.Entries.{held_at}
use Rattle.row_placing.proofs.Ids.{times_count, nonzero_count, nonzero_le}
use Rattle.row_placing.proofs.Numbers.{glass_test}

module _
    {s : Schedule} {rows sheets64 glass_ids pane_ids : List ℕ} (b : Stated s rows sheets64 glass_ids pane_ids)
  where
    glass_of_bit : (p g : ℕ) → p < length s.pane_ids → g < 64 → has (get_or rows p 0) g ≡ true → PassingNumber s p g
    glass_of_bit p g l k set =
        let is = and_parts (ltb g (length s.glass_ids)) (s.passes p g) (sym (b.rows_are p l g k) ∙ set) in
        record { within = ltb-true g (length s.glass_ids) is.0; passing = is.1 }

    pub bit_of_glass :
        (p g : ℕ) → p < length s.pane_ids → g < length s.glass_ids → s.passes p g ≡ true → has (get_or rows p 0) g ≡ true
    bit_of_glass p g l k pass =
        b.rows_are p l g (omega (arith, b.known.few)) ∙ rw (lt-ltb g (length s.glass_ids) k, pass)

    module _
        (held : List (Option ℕ))
        (tight : ℕ)
        (long : length held ≡ length s.pane_ids)
        (best : Greatest (task_of rows sheets64) (way_of held) (has tight))
      where
        pub each_held : (p : ℕ) → p < length s.pane_ids → (way_of held p ≡ 64) ⊎ PassingNumber s p (way_of held p)
        each_held p l =
            let here : p < length rows = omega (arith, b.a_row_each) in
            go (best.matching.passing p here) (eq-or-lt_of_le (best.or_none p here))
          where
            go :
                (way_of held p < 64 → has (get_or rows p 0) (way_of held p) ≡ true) →
                (way_of held p ≡ 64) ⊎ (way_of held p < 64) → (way_of held p ≡ 64) ⊎ PassingNumber s p (way_of held p)
            go set (inl none) = inl none
            go set (inr below) = inr (glass_of_bit p (way_of held p) l below (set below))

        abbrev ids : List ℕ
        ids = entries_held s.glass_ids held

        rows_ids : length ids ≡ length rows
        rows_ids = length-map held (entry_held s.glass_ids) ∙ long ∙ sym b.a_row_each

        id_at : (p : ℕ) → p < length s.pane_ids → get_or ids p 0 ≡ get_or s.glass_ids (way_of held p) 0
        id_at p l = held_at s.glass_ids held p b.known.few (omega arith)

        -- An entry is 0 where no glass is held, and not 0 where one is.
        zero_at : (p : ℕ) → p < length s.pane_ids → way_of held p ≡ 64 → get_or ids p 0 ≡ 0
        zero_at p l none = id_at p l ∙ get_or-eq_default s.glass_ids 0 (omega (arith, none, b.known.few))

        nonzero_at : (p : ℕ) → p < length s.pane_ids → PassingNumber s p (way_of held p) → get_or ids p 0 ≡ 0 → ⊥
        nonzero_at p l is none = omega (arith, none, id_at p l, b.known.id_low (way_of held p) is.within)

        nonzero_held : (p : ℕ) → p < length s.pane_ids → not (eqb (get_or ids p 0) 0) ≡ ltb (way_of held p) 64
        nonzero_held p l = go (each_held p l)
          where
            go :
                (way_of held p ≡ 64) ⊎ PassingNumber s p (way_of held p) →
                not (eqb (get_or ids p 0) 0) ≡ ltb (way_of held p) 64
            go (inl none) = rw (zero_at p l none, none)
            go (inr is) =
                let below : way_of held p < 64 = omega (arith, is.within, b.known.few) in
                rw (ne_eqb (get_or ids p 0) 0 (nonzero_at p l is), lt-ltb (way_of held p) 64 below)

        -- The id of a glass stands in the list as often as the glass is given.
        times_given :
            (j : ℕ) → j < length s.glass_ids →
            times (get_or s.glass_ids j 0) ids ≡ given (task_of rows sheets64) (way_of held) j
        times_given j l =
            times_count ids (length rows) rows_ids (get_or s.glass_ids j 0)
            ∙ count_same
            (λ p. eqb (get_or ids p 0) (get_or s.glass_ids j 0))
            (λ p. eqb (way_of held p) j)
            (length rows)
            (λ p k. rw (id_at p (omega (arith, b.a_row_each))) (glass_test b.known (way_of held p) j l))

        pub is_placing : Placing s (entries_held s.glass_ids held)
        is_placing = record {
          one_each = rows_ids ∙ b.a_row_each;
          passing = λ i l. go i l (each_held i l);
          in_stock =
              λ j l.
              omega (
                arith,
                times_given j l,
                best.matching.in_stock j (omega (arith, b.known.few)),
                b.sheets_are j l,
              );
        }
          where
            go :
                (i : ℕ) → i < length s.pane_ids → (way_of held i ≡ 64) ⊎ PassingNumber s i (way_of held i) →
                (get_or ids i 0 ≡ 0) ⊎ PassingId s i (get_or ids i 0)
            go i l (inl none) = inl (zero_at i l none)
            go i l (inr is) =
                inr (record { place = way_of held i; within = is.within; is_id = sym (id_at i l); passing = is.passing })

        pub placed_served : nonzero (entries_held s.glass_ids held) ≡ served (task_of rows sheets64) (way_of held)
        placed_served =
            nonzero_count ids (length rows) rows_ids
            ∙ count_same
            (λ p. not (eqb (get_or ids p 0) 0))
            (λ p. ltb (way_of held p) 64)
            (length rows)
            (λ p k. nonzero_held p (omega (arith, b.a_row_each)))

        pub placed_le : nonzero (entries_held s.glass_ids held) ≤ length s.pane_ids
        placed_le = nonzero_le ids (length s.pane_ids) is_placing.one_each

        pub none_spare : NoneToSpare s (entries_held s.glass_ids held)
        none_spare i l zero j k pass = go (each_held i l)
          where
            go :
                (way_of held i ≡ 64) ⊎ PassingNumber s i (way_of held i) →
                times (get_or s.glass_ids j 0) ids ≡ get_or s.sheets j 0
            go (inl none) =
                times_given j k
                ∙ best.none_to_spare i (omega (arith, b.a_row_each)) none j (omega (arith, b.known.few))
                (bit_of_glass i j l k pass)
                ∙ b.sheets_are j k
            go (inr is) = absurd (nonzero_at i l is zero)
