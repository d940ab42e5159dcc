-- Laws of tests of every number below a bound.
--     all_at, all_of    every number passes
--     all_not           one does not
use Prim.Native.Nat.{ℕ, zero, suc, ◌<◌}
use mathlib.Core.Path.{◌≡◌, refl, ap, sym, ◌∙◌}
use mathlib.Core.Logic.{◌⊎◌, inl, inr}
use mathlib.Core.Bool.{Bool, true, false, ◌&&◌, and-false}
use native.Mathlib.Omega.{arith}
use Rattle.std.proofs.lemmas.Bool.{and_parts}
use Rattle.ranges.specs.Internal.Counts.{all_to}
use Rattle.basics.proofs.Tests.{last_or_below}

module _ (test : ℕ → Bool) where
  pub all_at : (n : ℕ) → all_to test n ≡ true → (i : ℕ) → i < n → test i ≡ true
  unfolding all_to
  all_at zero e i l = absurd (omega arith)
  all_at (suc n) e i l =
      let both = and_parts (all_to test n) (test n) e in
      go (last_or_below i n l) both.1 (λ k. all_at n both.0 i k)
    where
      go : (i ≡ n) ⊎ (i < n) → test n ≡ true → (i < n → test i ≡ true) → test i ≡ true
      go (inl same) here later = ap test same ∙ here
      go (inr k) here later = later k

  pub all_of : (n : ℕ) → ((i : ℕ) → i < n → test i ≡ true) → all_to test n ≡ true
  unfolding all_to
  all_of zero h = refl
  all_of (suc n) h = rw (h n (omega arith), all_of n (λ i l. h i (omega arith)))

  pub all_not : (n i : ℕ) → i < n → test i ≡ false → all_to test n ≡ false
  unfolding all_to
  all_not zero i l e = absurd (omega arith)
  all_not (suc n) i l e = go (last_or_below i n l) (λ k. all_not n i k e)
    where
      go : (i ≡ n) ⊎ (i < n) → (i < n → all_to test n ≡ false) → (all_to test n && test n) ≡ false
      go (inl same) later = rw (ap test (sym same) ∙ e) (and-false (all_to test n))
      go (inr k) later = rw (later k)
