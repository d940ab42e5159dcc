-- Two panes and no glass: both are left over, and the group has both, from the lowest up.
--     only_zeros    what the answers are
--     only_group    what the group is
use Prim.Native.Nat.{ℕ, zero, suc, ◌+◌, ◌<◌}
use mathlib.Core.Path.{◌≡◌, refl, sym}
use mathlib.Core.Logic.{◌⊎◌, inl, inr}
use mathlib.Core.List.{List, [], ◌∷◌}
use native.Mathlib.Omega.{arith}
use lib.ListN.{length, get_or}
use Rattle.row_placing.specs.Schedule.{Schedule}
use Rattle.row_placing.specs.Placing.{nonzero, PassingId, Placing}
use Rattle.row_placing.specs.ShortGroup.{PaneId, lacking, ShortGroup}
use Rattle.placing.specs.FileSchedule.{schedule_of}
use Rattle.bench_examples.proofs.Files.{panes_empty}

abbrev pub schedule_empty : Schedule
schedule_empty = schedule_of [] [] panes_empty

no_id : (i x : ℕ) → (x ≡ 0) ⊎ PassingId schedule_empty i x → x ≡ 0
no_id i x (inl none) = none
no_id i x (inr passing) = absurd (omega (arith, passing.within))

pub only_zeros : (ids : List ℕ) → Placing schedule_empty ids → ids ≡ 0 ∷ 0 ∷ []
only_zeros [] p = absurd (omega (arith, p.one_each))
only_zeros (x ∷ []) p = absurd (omega (arith, p.one_each))
only_zeros (x ∷ y ∷ z ∷ rest) p = absurd (omega (arith, p.one_each))
only_zeros (x ∷ y ∷ []) p = rw (no_id 0 x (p.passing 0 (omega arith)), no_id 1 y (p.passing 1 (omega arith)))

pub none_placed : nonzero (0 ∷ 0 ∷ []) ≡ 0
unfolding nonzero
none_placed = refl

one_or_two : (id : ℕ) → PaneId schedule_empty id → (id ≡ 1) ⊎ (id ≡ 2)
one_or_two id p = go p.place p.within p.is_id
  where
    go : (j : ℕ) → j < 2 → get_or schedule_empty.pane_ids j 0 ≡ id → (id ≡ 1) ⊎ (id ≡ 2)
    go zero l e = inr (sym e)
    go (suc zero) l e = inl (sym e)
    go (suc (suc j)) l e = absurd (omega arith)

both : (x y : ℕ) → x < y → (x ≡ 1) ⊎ (x ≡ 2) → (y ≡ 1) ⊎ (y ≡ 2) → x ∷ y ∷ [] ≡ 1 ∷ 2 ∷ []
both x y less (inl e) (inl f) = absurd (omega (arith, e, f))
both x y less (inl e) (inr f) = rw (e, f)
both x y less (inr e) (inl f) = absurd (omega (arith, e, f))
both x y less (inr e) (inr f) = absurd (omega (arith, e, f))

pub only_group :
    (group : List ℕ) → ShortGroup schedule_empty group → lacking schedule_empty group ≡ 2 →
    ((k : ℕ) → k + 1 < length group → get_or group k 0 < get_or group (k + 1) 0) → group ≡ 1 ∷ 2 ∷ []
only_group [] s two r = absurd (omega (arith, two))
only_group (x ∷ []) s two r = absurd (omega (arith, two))
only_group (x ∷ y ∷ z ∷ rest) s two r =
    none_above (one_or_two x (s.some_panes.of_panes 0 (omega arith))) (one_or_two z (s.some_panes.of_panes 2 (omega arith)))
  where
    none_above : (x ≡ 1) ⊎ (x ≡ 2) → (z ≡ 1) ⊎ (z ≡ 2) → x ∷ y ∷ z ∷ rest ≡ 1 ∷ 2 ∷ []
    none_above (inl e) (inl f) = absurd (omega (arith, e, f, r 0 (omega arith), r 1 (omega arith)))
    none_above (inl e) (inr f) = absurd (omega (arith, e, f, r 0 (omega arith), r 1 (omega arith)))
    none_above (inr e) (inl f) = absurd (omega (arith, e, f, r 0 (omega arith), r 1 (omega arith)))
    none_above (inr e) (inr f) = absurd (omega (arith, e, f, r 0 (omega arith), r 1 (omega arith)))
only_group (x ∷ y ∷ []) s two r =
    both x y (r 0 (omega arith)) (one_or_two x (s.some_panes.of_panes 0 (omega arith))) (one_or_two y (s.some_panes.of_panes 1 (omega arith)))
