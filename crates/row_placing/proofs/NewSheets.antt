-- One sheet more of a passing glass for each pane left over places it: as many new sheets as panes are left over, and enough.
--     sheets_enough    they are enough
--     as_many          so many they are
use Prim.Native.Nat.{ℕ, ◌+◌, ◌-◌, ◌≤◌, ◌<◌}
use mathlib.Core.Path.{◌≡◌, refl, sym, ◌∙◌}
use mathlib.Core.Logic.{◌⊎◌, inl, inr}
use mathlib.Core.Bool.{Bool, true, false, ◌&&◌}
use mathlib.Core.List.{List, map}
use native.Mathlib.Omega.{arith}
use lib.Dec.{ltb, eqb}
use lib.ListN.{length, get_or}
use borrow.Author.Tests.{lt-ltb, le-ltb, eqb-true, eqb-false, eq-eqb, ne_eqb}
use Rattle.std.specs.Prelude.{if◌then◌else◌}
use Rattle.std.specs.List.{range_with_len}
use Rattle.std.proofs.lemmas.List.FromFn.{length-map-range_with_len, get_or-map-range_with_len}
use Rattle.ids.proofs.Distinct.{distinct_at}
use Rattle.ranges.specs.Ranges.{sum_to}
use Rattle.ranges.specs.Internal.Counts.{one, count_to}
use Rattle.ranges.proofs.Sums.{sum_le, sum_add, sum_cong}
use Rattle.ranges.proofs.Counts.{one_le, count_same, count_none, count_not, count_by}
use Rattle.row_placing.specs.Schedule.{Schedule}
use Rattle.row_placing.specs.Placing.{times, nonzero, PassingId, Placing}
use Rattle.row_placing.specs.MissingSheets.{with_sheets, EnoughWith, GlassIds, PassingChoice, chosen}
use Rattle.row_placing.proofs.Ids.{times_count, nonzero_count}
use Rattle.row_placing.proofs.Numbers.{same_number}

module _ {s : Schedule} (ids : List ℕ) (placing : Placing s ids) (choice : ℕ → ℕ) (passing : PassingChoice s ids choice) where
  abbrev entry : ℕ → ℕ
  entry i = get_or ids i 0

  -- The glass of which a pane takes a new sheet; past the last glass where the pane is placed.
  abbrev new : ℕ → ℕ
  new i = if eqb (entry i) 0 then choice i else length s.glass_ids

  chosen_new : (g : ℕ) → g < length s.glass_ids → chosen s ids choice g ≡ count_to (λ i. eqb (new i) g) (length s.pane_ids)
  chosen_new g k =
      count_same (λ i. eqb (entry i) 0 && eqb (choice i) g) (λ i. eqb (new i) g) (length s.pane_ids)
      (λ i l. go i (eqb (entry i) 0))
    where
      go : (i : ℕ) (b : Bool) → (b && eqb (choice i) g) ≡ eqb (if b then choice i else length s.glass_ids) g
      go i true = refl
      go i false = sym (ne_eqb (length s.glass_ids) g (λ e. omega (arith, e)))

  pub as_many : sum_to (chosen s ids choice) (length s.glass_ids) ≡ length s.pane_ids - nonzero ids
  as_many =
      omega (
        arith,
        sum_cong
            (chosen s ids choice)
            (λ g. count_to (λ i. eqb (new i) g) (length s.pane_ids))
            (length s.glass_ids)
            chosen_new,
        count_by (λ g. true) new (length s.pane_ids) (length s.glass_ids),
        count_same
            (λ i. ltb (new i) (length s.glass_ids) && true)
            (λ i. eqb (entry i) 0)
            (length s.pane_ids)
            (λ i l. is_left i l (eqb (entry i) 0) refl),
        count_not (λ i. eqb (entry i) 0) (length s.pane_ids),
        nonzero_count ids (length s.pane_ids) placing.one_each,
      )
    where
      is_left :
          (i : ℕ) → i < length s.pane_ids → (b : Bool) → eqb (entry i) 0 ≡ b →
          (ltb (if b then choice i else length s.glass_ids) (length s.glass_ids) && true) ≡ b
      is_left i l true is = rw (lt-ltb (choice i) (length s.glass_ids) (passing i l (eqb-true (entry i) 0 is)).0)
      is_left i l false is = rw (le-ltb (length s.glass_ids) (length s.glass_ids) (omega arith))

  module _ (told : GlassIds s) where
    -- The sheets of a glass with the new ones, and the answer that a pane gets.
    abbrev sheets_at : ℕ → ℕ
    sheets_at g = get_or s.sheets g 0 + chosen s ids choice g

    abbrev answer_at : ℕ → ℕ
    answer_at i = if eqb (entry i) 0 then get_or s.glass_ids (choice i) 0 else entry i

    abbrev sheets : List ℕ
    sheets = map sheets_at (range_with_len 0 (length s.glass_ids))

    abbrev answers : List ℕ
    answers = map answer_at (range_with_len 0 (length s.pane_ids))

    abbrev bought : Schedule
    bought = with_sheets s sheets

    answer_left : (i : ℕ) → i < length s.pane_ids → entry i ≡ 0 → get_or answers i 0 ≡ get_or s.glass_ids (choice i) 0
    answer_left i l none = get_or-map-range_with_len answer_at 0 (length s.pane_ids) i i 0 l (omega arith) ∙ rw (eq-eqb (entry i) 0 none)

    answer_placed : (i : ℕ) → i < length s.pane_ids → (entry i ≡ 0 → ⊥) → get_or answers i 0 ≡ entry i
    answer_placed i l placed =
        get_or-map-range_with_len answer_at 0 (length s.pane_ids) i i 0 l (omega arith) ∙ rw (ne_eqb (entry i) 0 placed)

    passing_glass : (i : ℕ) → i < length s.pane_ids → PassingId bought i (get_or answers i 0)
    passing_glass i l = go (eqb (entry i) 0) refl (placing.passing i l)
      where
        go :
            (b : Bool) → eqb (entry i) 0 ≡ b → (entry i ≡ 0) ⊎ PassingId s i (entry i) →
            PassingId bought i (get_or answers i 0)
        go true is either =
            let none = eqb-true (entry i) 0 is in
            let glass = passing i l none in
            record { place = choice i; within = glass.0; is_id = sym (answer_left i l none); passing = glass.1 }
        go false is (inl none) = absurd (eqb-false (entry i) 0 is none)
        go false is (inr g) = record {
          place = g.place;
          within = g.within;
          is_id = g.is_id ∙ sym (answer_placed i l (eqb-false (entry i) 0 is));
          passing = g.passing;
        }

    same_glass :
        (g j : ℕ) → g < length s.glass_ids → j < length s.glass_ids → get_or s.glass_ids g 0 ≡ get_or s.glass_ids j 0 → g ≡ j
    same_glass = same_number s.glass_ids (λ a b. distinct_at s.glass_ids a b told.differ)

    module _ (j : ℕ) (k : j < length s.glass_ids) where
      abbrev id : ℕ
      id = get_or s.glass_ids j 0

      abbrev is_new : ℕ → Bool
      is_new i = eqb (entry i) 0 && eqb (choice i) j

      -- Each pane that has the id of a glass had it before, or takes a new sheet of it.
      one_new : (i : ℕ) → i < length s.pane_ids → one (eqb (get_or answers i 0) id) ≤ one (eqb (entry i) id) + one (is_new i)
      one_new i l = go (eqb (entry i) 0) refl
        where
          go : (b : Bool) → eqb (entry i) 0 ≡ b → one (eqb (get_or answers i 0) id) ≤ one (eqb (entry i) id) + one (b && eqb (choice i) j)
          go true is =
              let none = eqb-true (entry i) 0 is in
              let new_one =
              one_le (eqb (get_or s.glass_ids (choice i) 0) id) (eqb (choice i) j)
              (λ same. eq-eqb (choice i) j (same_glass (choice i) j (passing i l none).0 k (eqb-true _ _ same))) in
              rw (answer_left i l none) (omega (arith, new_one))
          go false is = rw (answer_placed i l (eqb-false (entry i) 0 is)) (omega arith)

      in_stock : times id answers ≤ get_or sheets j 0
      in_stock =
          omega (
            arith,
            get_or-map-range_with_len sheets_at 0 (length s.glass_ids) j j 0 k (omega arith),
            times_count answers (length s.pane_ids) (length-map-range_with_len answer_at 0 (length s.pane_ids)) id,
            times_count ids (length s.pane_ids) placing.one_each id,
            placing.in_stock j k,
            sum_add (λ i. one (eqb (entry i) id)) (λ i. one (is_new i)) (length s.pane_ids),
            sum_le
                (λ i. one (eqb (get_or answers i 0) id))
                (λ i. one (eqb (entry i) id) + one (is_new i))
                (length s.pane_ids)
                one_new,
          )

    none_zero : (i : ℕ) → i < length s.pane_ids → eqb (get_or answers i 0) 0 ≡ false
    none_zero i l =
        let g = passing_glass i l in
        ne_eqb (get_or answers i 0) 0 (λ e. omega (arith, told.not_zero g.place g.within, g.is_id, e))

    pub sheets_enough : EnoughWith s (chosen s ids choice)
    sheets_enough = record {
      sheets = sheets;
      sheets_are = λ g k. get_or-map-range_with_len sheets_at 0 (length s.glass_ids) g g 0 k (omega arith);
      full = record {
        ids = answers;
        placing = record {
          one_each = length-map-range_with_len answer_at 0 (length s.pane_ids);
          passing = λ i l. inr (passing_glass i l);
          in_stock = in_stock;
        };
        every_pane =
            omega (
              arith,
              nonzero_count answers (length s.pane_ids) (length-map-range_with_len answer_at 0 (length s.pane_ids)),
              count_not (λ i. eqb (get_or answers i 0) 0) (length s.pane_ids),
              count_none (λ i. eqb (get_or answers i 0) 0) (length s.pane_ids) none_zero,
            );
      };
    }
