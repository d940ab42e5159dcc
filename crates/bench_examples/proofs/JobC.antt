-- (c): of the two glasses, that of 10 mm alone passes for the ribbon, so the ribbon has it.
--     glass_8_fails, glass_10_passes    the two verdicts
--     full_placing                      glass 10 places the pane
--     no_other                          no other placing does
use Prim.Native.Nat.{ℕ, zero, suc, ◌≤◌, ◌<◌}
use mathlib.Core.Path.{◌≡◌, refl, sym, ap, ◌∙◌}
use mathlib.Core.Logic.{◌⊎◌, inl, inr}
use mathlib.Core.Bool.{true}
use mathlib.Core.List.{List, [], ◌∷◌}
use native.Mathlib.Omega.{arith}
use lib.ListN.{get_or}
use Rattle.basics.proofs.Tests.{clash}
use Rattle.job_glass.specs.declared.Glass.{Glass}
use Rattle.job_file.specs.Entries.{glass_at, stocks_of}
use Rattle.span_table.specs.Spans.{spans}
use Rattle.point_load.specs.Support.{column_of}
use Rattle.clauses.specs.Verdict.{verdict_of}
use Rattle.clauses.specs.declared.judging.Verdict.TheVariants.{Passes, Fails}
use Rattle.row_placing.specs.Schedule.{Schedule}
use Rattle.row_placing.specs.Placing.{times, nonzero, PassingId, Placing, FullPlacing}
use Rattle.placing.specs.FileSchedule.{is_pass, passes_for, schedule_of}
use Rattle.bench_examples.specs.Files.{pane_c, glass8, glass10}

abbrev pub glasses_c : List Glass
glasses_c = glass8 ∷ glass10 ∷ []

-- What is to be placed.
abbrev pub schedule_c : Schedule
schedule_c = schedule_of glasses_c (stocks_of glasses_c) (pane_c 3001 ∷ [])

pub glass_8_fails : verdict_of (pane_c 3001) glass8 ≡ Fails 3
unfolding verdict_of spans column_of
glass_8_fails = refl

pub glass_10_passes : verdict_of (pane_c 3001) glass10 ≡ Passes
unfolding verdict_of spans column_of
glass_10_passes = refl

abbrev answer : List ℕ
answer = 10 ∷ []

placing : Placing schedule_c answer
unfolding times
placing = record { one_each = refl; passing = given; in_stock = stock }
  where
    given : (i : ℕ) → i < 1 → (get_or answer i 0 ≡ 0) ⊎ PassingId schedule_c i (get_or answer i 0)
    given zero l = inr (record { place = 1; within = omega arith; is_id = refl; passing = ap is_pass glass_10_passes })
    given (suc i) l = absurd (omega arith)

    stock : (j : ℕ) → j < 2 → times (get_or schedule_c.glass_ids j 0) answer ≤ get_or (stocks_of glasses_c) j 0
    stock zero l = omega arith
    stock (suc zero) l = omega arith
    stock (suc (suc j)) l = absurd (omega arith)

pub full_placing : FullPlacing schedule_c
unfolding nonzero
full_placing = record { ids = answer; placing = placing; every_pane = refl }

-- What the pane has, where it has a glass.
only : (x : ℕ) → PassingId schedule_c 0 x → x ≡ 10
only x p = go p.place p.within p.is_id p.passing
  where
    go : (j : ℕ) → j < 2 → get_or schedule_c.glass_ids j 0 ≡ x → passes_for (pane_c 3001) (glass_at glasses_c j) ≡ true → x ≡ 10
    go zero l e pass = let differ = sym (ap is_pass glass_8_fails) ∙ pass in clash (cc)
    go (suc zero) l e pass = sym e
    go (suc (suc j)) l e pass = absurd (omega arith)

pub no_other : (ids : List ℕ) → Placing schedule_c ids → nonzero ids ≡ 1 → ids ≡ answer
unfolding nonzero
no_other [] p all = absurd (omega arith)
no_other (x ∷ y ∷ rest) p all = absurd (omega (arith, p.one_each))
no_other (x ∷ []) p all = go (p.passing 0 (omega arith))
  where
    go : (x ≡ 0) ⊎ PassingId schedule_c 0 x → x ∷ [] ≡ answer
    go (inl none) = let all' = rw none at all in absurd (omega (arith, all'))
    go (inr passing) = ap (λ id. id ∷ []) (only x passing)
