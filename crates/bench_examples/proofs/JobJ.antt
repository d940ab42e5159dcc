-- (j): the answers 7 and 9 are the only ones that place both panes. Glass 7 fails for pane 2, so pane 2 has glass 9, and there
-- is one sheet of it.
--     full_placing    7 and 9 place both panes
--     no_other        no other placing does
use Prim.Native.Nat.{ℕ, zero, suc, ◌≤◌, ◌<◌}
use mathlib.Core.Path.{◌≡◌, refl, sym, ◌∙◌}
use mathlib.Core.Logic.{◌⊎◌, inl, inr}
use mathlib.Core.Bool.{Bool, true, false}
use mathlib.Core.List.{List, [], ◌∷◌}
use native.Mathlib.Omega.{arith}
use lib.Dec.{eqb}
use lib.ListN.{get_or}
use Rattle.std.specs.Prelude.{if◌then◌else◌}
use Rattle.basics.proofs.Tests.{clash}
use Rattle.bench_examples.proofs.Files.{glasses_j, panes_j}
use Rattle.span_table.specs.Spans.{spans}
use Rattle.point_load.specs.Support.{column_of}
use Rattle.clauses.specs.Verdict.{verdict_of}
use Rattle.job_file.specs.Entries.{glass_at, pane_at, stocks_of}
use Rattle.row_placing.specs.Schedule.{Schedule}
use Rattle.row_placing.specs.Placing.{times, nonzero, PassingId, Placing, FullPlacing}
use Rattle.placing.specs.FileSchedule.{passes_for, schedule_of}

-- What is to be placed.
abbrev pub schedule_j : Schedule
schedule_j = schedule_of glasses_j (stocks_of glasses_j) panes_j

-- The verdicts that matter, computed: glass 7 is at place 1, glass 9 at place 0.
pane_1_glass_7 : passes_for (pane_at panes_j 0) (glass_at glasses_j 1) ≡ true
unfolding verdict_of spans column_of
pane_1_glass_7 = refl

pane_2_glass_9 : passes_for (pane_at panes_j 1) (glass_at glasses_j 0) ≡ true
unfolding verdict_of spans column_of
pane_2_glass_9 = refl

pane_2_glass_7 : passes_for (pane_at panes_j 1) (glass_at glasses_j 1) ≡ false
unfolding verdict_of spans column_of
pane_2_glass_7 = refl

abbrev answers : List ℕ
answers = 7 ∷ 9 ∷ []

placing : Placing schedule_j answers
unfolding times
placing = record { one_each = refl; passing = given; in_stock = stock }
  where
    given : (i : ℕ) → i < 2 → (get_or answers i 0 ≡ 0) ⊎ PassingId schedule_j i (get_or answers i 0)
    given zero l = inr (record { place = 1; within = omega arith; is_id = refl; passing = pane_1_glass_7 })
    given (suc zero) l = inr (record { place = 0; within = omega arith; is_id = refl; passing = pane_2_glass_9 })
    given (suc (suc i)) l = absurd (omega arith)

    stock : (j : ℕ) → j < 2 → times (get_or schedule_j.glass_ids j 0) answers ≤ get_or (stocks_of glasses_j) j 0
    stock zero l = omega arith
    stock (suc zero) l = omega arith
    stock (suc (suc j)) l = absurd (omega arith)

pub full_placing : FullPlacing schedule_j
unfolding nonzero
full_placing = record { ids = answers; placing = placing; every_pane = refl }

-- What stands in an entry that is not 0: pane 1 has glass 9 or 7, and pane 2 has glass 9.
first : (x : ℕ) → PassingId schedule_j 0 x → (x ≡ 9) ⊎ (x ≡ 7)
first x p = go p.place p.within p.is_id
  where
    go : (j : ℕ) → j < 2 → get_or schedule_j.glass_ids j 0 ≡ x → (x ≡ 9) ⊎ (x ≡ 7)
    go zero l e = inl (sym e)
    go (suc zero) l e = inr (sym e)
    go (suc (suc j)) l e = absurd (omega arith)

second : (y : ℕ) → PassingId schedule_j 1 y → y ≡ 9
second y p = go p.place p.within p.is_id p.passing
  where
    go : (j : ℕ) → j < 2 → get_or schedule_j.glass_ids j 0 ≡ y → passes_for (pane_at panes_j 1) (glass_at glasses_j j) ≡ true → y ≡ 9
    go zero l e pass = sym e
    go (suc zero) l e pass = let differ = sym pane_2_glass_7 ∙ pass in clash (cc)
    go (suc (suc j)) l e pass = absurd (omega arith)

at_most_one : (b : Bool) → (if b then 0 else 1) ≤ 1
at_most_one true = omega arith
at_most_one false = omega arith

pub no_other :
    (ids : List ℕ) → Placing schedule_j ids → nonzero ids ≡ 2 → ids ≡ answers
unfolding nonzero times
no_other [] p all = absurd (omega arith)
no_other (x ∷ []) p all = absurd (omega (arith, p.one_each))
no_other (x ∷ y ∷ z ∷ rest) p all = absurd (omega (arith, p.one_each))
no_other (x ∷ y ∷ []) p all = go (p.passing 0 (omega arith)) (p.passing 1 (omega arith))
  where
    -- One sheet of glass 9 does not serve both.
    once : x ≡ 9 → y ≡ 9 → ⊥
    once e f =
        let stock = p.in_stock 0 (omega arith) in
        let both = rw (e, f) at stock in
        omega (arith, both)

    which : (x ≡ 9) ⊎ (x ≡ 7) → y ≡ 9 → x ∷ y ∷ [] ≡ answers
    which (inl e) f = absurd (once e f)
    which (inr e) f = rw (e, f)

    go :
        (x ≡ 0) ⊎ PassingId schedule_j 0 x → (y ≡ 0) ⊎ PassingId schedule_j 1 y →
        x ∷ y ∷ [] ≡ answers
    go (inl none) second_entry = let all' = rw none at all in absurd (omega (arith, all', at_most_one (eqb y 0)))
    go (inr p1) (inl none) = let all' = rw none at all in absurd (omega (arith, all', at_most_one (eqb x 0)))
    go (inr p1) (inr p2) = which (first x p1) (second y p2)
