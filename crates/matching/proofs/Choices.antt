-- The glasses that `serve` looks at, by the sets that it makes of a row.
--     at_hand, none_at_hand    the unseen glasses of a row with a sheet to spare
--     rest_at, rest_none       the unmarked glasses of a row
--     now_marked, fewer        one of them is marked, and one fewer is unvisited
use Prim.Native.Nat.{ℕ, ◌<◌}
use mathlib.Core.Path.{◌≡◌, refl, sym, ◌∙◌}
use mathlib.Core.Bool.{Bool, true, false, not, ◌&&◌, ◌||◌}
use lib.Dec.{eqb}
use borrow.Author.Tests.{eq-eqb, not-true}
use Rattle.std.proofs.lemmas.Bool.{and_parts}
use Rattle.basics.proofs.Tests.{differ}
use Rattle.glass_set.specs.Internal.Member.{has, Members, Within, unvisited}
use Rattle.glass_set.proofs.Members.{has_none, unvisited_less}
use Rattle.matching.specs.Internal.Steps.{Unseen}
use Rattle.matching.proofs.Growth.{within_with}

-- What is left of a row outside a set.
module _ (row set rest : ℕ) (is : Members rest (λ g. has row g && not (has set g))) where
  pub rest_at : (g : ℕ) → g < 64 → has rest g ≡ true → (has row g ≡ true) × Unseen set g
  rest_at g l e =
      let h = and_parts (has row g) (not (has set g)) (sym (is g l) ∙ e) in
      (h.0, record { below = l; out = not-true (has set g) h.1 })

  pub rest_none : rest ≡ 0 → Within row set
  rest_none none g l e = go (has set g) refl
    where
      go : (x : Bool) → has set g ≡ x → x ≡ true
      go true out = refl
      go false out =
          let in_rest : has rest g ≡ true = is g l ∙ rw (e, out) in
          differ in_rest (rw none (has_none g))

-- The glasses of a row that have a sheet to spare, outside a set.
module _ (row spare seen some at_hand_set : ℕ) (both : Members some (λ g. has row g && has spare g))
    (is : Members at_hand_set (λ g. has some g && not (has seen g))) where
  pub at_hand :
      (g : ℕ) → g < 64 → has at_hand_set g ≡ true → (has row g ≡ true) × (has spare g ≡ true) × Unseen seen g
  at_hand g l e =
      let h = rest_at some seen at_hand_set is g l e in
      let k = and_parts (has row g) (has spare g) (sym (both g l) ∙ h.0) in
      (k.0, k.1, h.1)

  pub none_at_hand : at_hand_set ≡ 0 → (g : ℕ) → Unseen seen g → has row g ≡ true → has spare g ≡ false
  none_at_hand none g u e = go (has spare g) refl
    where
      go : (x : Bool) → has spare g ≡ x → x ≡ false
      go true s =
          differ (rest_none some seen at_hand_set is none g u.below (both g u.below ∙ rw (e, s))) u.out
      go false s = refl

-- A set with one glass more.
module _ (set glass more : ℕ) (is : Members more (λ g. eqb g glass || has set g)) (l : glass < 64) where
  pub now_marked : has more glass ≡ true
  now_marked = is glass l ∙ rw (eq-eqb glass glass refl)

  pub fewer : has set glass ≡ false → unvisited more < unvisited set
  fewer out = unvisited_less set more glass l out now_marked (within_with set more glass is)
