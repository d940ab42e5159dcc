-- Laws of sums over the numbers below a bound.
--     sum_zero             every term is 0
--     sum_cong, sum_le     equal, or smaller, term by term
--     sum_add              the sum of two sums
--     sum_at               two sums whose terms differ at one number
--     sum_less             a sum whose terms are at most the other's, and less at one number
--     sum_front            a sum by its first term
--     sum_wider            a sum to a greater bound
--     sum_le_some          smaller term by term, where only some terms count
use Prim.Native.Nat.{ℕ, zero, suc, ◌+◌, ◌≤◌, ◌<◌}
use mathlib.Core.Path.{◌≡◌, refl, ap, sym}
use mathlib.Core.Logic.{◌⊎◌, inl, inr}
use mathlib.Core.Bool.{Bool, true, false}
use native.Mathlib.Nat.{le_refl, eq-or-lt_of_le}
use native.Mathlib.Omega.{arith}
use Rattle.std.specs.Prelude.{if◌then◌else◌}
use Rattle.ranges.specs.Ranges.{sum_to}
use Rattle.basics.proofs.Tests.{last_or_below}

pub sum_zero : (f : ℕ → ℕ) (n : ℕ) → ((i : ℕ) → i < n → f i ≡ 0) → sum_to f n ≡ 0
unfolding sum_to
sum_zero f zero h = refl
sum_zero f (suc n) h = omega (arith, sum_zero f n (λ i l. h i (omega arith)), h n (omega arith))

module _ (f g : ℕ → ℕ) where
  pub sum_cong : (n : ℕ) → ((i : ℕ) → i < n → f i ≡ g i) → sum_to f n ≡ sum_to g n
  unfolding sum_to
  sum_cong zero h = refl
  sum_cong (suc n) h =
      let rest = sum_cong n (λ i l. h i (omega arith)) in
      omega (arith, rest, h n (omega arith))

  pub sum_le : (n : ℕ) → ((i : ℕ) → i < n → f i ≤ g i) → sum_to f n ≤ sum_to g n
  unfolding sum_to
  sum_le zero h = omega arith
  sum_le (suc n) h =
      let rest = sum_le n (λ i l. h i (omega arith)) in
      omega (arith, rest, h n (omega arith))

  pub sum_add : (n : ℕ) → sum_to (λ i. f i + g i) n ≡ sum_to f n + sum_to g n
  unfolding sum_to
  sum_add zero = refl
  sum_add (suc n) = omega (arith, sum_add n)

  pub sum_at :
      (n p : ℕ) → p < n → ((i : ℕ) → i < n → (i ≡ p → ⊥) → f i ≡ g i) → sum_to f n + g p ≡ sum_to g n + f p
  unfolding sum_to
  sum_at zero p l h = absurd (omega arith)
  sum_at (suc n) p l h = go (last_or_below p n l) (λ k. sum_at n p k (λ i j. h i (omega arith)))
    where
      go :
          (p ≡ n) ⊎ (p < n) → (p < n → sum_to f n + g p ≡ sum_to g n + f p) →
          sum_to f n + f n + g p ≡ sum_to g n + g n + f p
      go (inl e) later =
          let rest = sum_cong n (λ i k. h i (omega arith) (λ same. omega (arith, same, e))) in
          let here : f n ≡ f p = ap f (sym e) in
          let there : g n ≡ g p = ap g (sym e) in
          omega (arith, rest, here, there)
      go (inr k) later = omega (arith, later k, h n (omega arith) (λ same. omega (arith, same, k)))

  pub sum_less : (n p : ℕ) → p < n → ((i : ℕ) → i < n → f i ≤ g i) → f p < g p → sum_to f n < sum_to g n
  unfolding sum_to
  sum_less zero p l h less = absurd (omega arith)
  sum_less (suc n) p l h less = go (last_or_below p n l) (λ k. sum_less n p k (λ i j. h i (omega arith)) less)
    where
      go : (p ≡ n) ⊎ (p < n) → (p < n → sum_to f n < sum_to g n) → sum_to f n + f n < sum_to g n + g n
      go (inl e) later =
          let here : f n < g n = rw e at less in
          omega (arith, here, sum_le n (λ i k. h i (omega arith)))
      go (inr k) later = omega (arith, later k, h n (omega arith))

pub sum_front : (f : ℕ → ℕ) (n : ℕ) → sum_to f (suc n) ≡ f 0 + sum_to (λ i. f (suc i)) n
unfolding sum_to
sum_front f zero = omega arith
sum_front f (suc n) = omega (arith, sum_front f n)

pub sum_wider : (f : ℕ → ℕ) (m n : ℕ) → m ≤ n → sum_to f m ≤ sum_to f n
unfolding sum_to
sum_wider f zero zero l = le_refl 0
sum_wider f (suc m) zero l = absurd (omega arith)
sum_wider f m (suc n) l = go (eq-or-lt_of_le l) (sum_wider f m n)
  where
    go : (m ≡ suc n) ⊎ (m < suc n) → (m ≤ n → sum_to f m ≤ sum_to f n) → sum_to f m ≤ sum_to f (suc n)
    go (inl e) later = rw e (le_refl (sum_to f (suc n)))
    go (inr k) later = omega (arith, later (omega arith))

pub sum_le_some :
    (some : ℕ → Bool) (f g : ℕ → ℕ) (n : ℕ) → ((i : ℕ) → i < n → some i ≡ true → f i ≤ g i) →
    sum_to (λ i. if some i then f i else 0) n ≤ sum_to (λ i. if some i then g i else 0) n
sum_le_some some f g n h = sum_le _ _ n (λ i l. go i (some i) (h i l))
  where
    go : (i : ℕ) (b : Bool) → (b ≡ true → f i ≤ g i) → (if b then f i else 0) ≤ (if b then g i else 0)
    go i true h = h refl
    go i false h = omega arith
