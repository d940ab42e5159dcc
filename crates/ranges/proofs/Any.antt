-- Tests of some number below a bound.
--     Passed, any_found    where some number passes, one can be named
--     any_of               where a number passes, some number does
--     any_same             two tests that agree
use Prim.Native.Nat.{ℕ, zero, suc, ◌<◌}
use mathlib.Core.Path.{◌≡◌, refl, ap, sym, ◌∙◌}
use mathlib.Core.Logic.{◌⊎◌, inl, inr}
use mathlib.Core.Bool.{Bool, true, false, ◌||◌, or-true}
use native.Mathlib.Omega.{arith}
use Rattle.ranges.specs.Ranges.{any_to}
use Rattle.basics.proofs.Tests.{differ, last_or_below}

pub record Passed (test : ℕ → Bool) (n : ℕ) : Type 0 where
  pub number : ℕ
  pub below : number < n
  pub passed : test number ≡ true

pub any_found : (test : ℕ → Bool) (n : ℕ) → any_to test n ≡ true → Passed test n
unfolding any_to
any_found test zero e = differ e refl
any_found test (suc n) e = go (any_to test n) refl e (any_found test n)
  where
    go :
        (b : Bool) → any_to test n ≡ b → (b || test n) ≡ true → (any_to test n ≡ true → Passed test n) → Passed test (suc n)
    go true before e later =
        let p = later before in
        record { number = p.number; below = omega (arith, p.below); passed = p.passed }
    go false before e later = record { number = n; below = omega arith; passed = e }

pub any_of : (test : ℕ → Bool) (n i : ℕ) → i < n → test i ≡ true → any_to test n ≡ true
unfolding any_to
any_of test zero i l e = absurd (omega arith)
any_of test (suc n) i l e = go (last_or_below i n l) (λ k. any_of test n i k e)
  where
    go : (i ≡ n) ⊎ (i < n) → (i < n → any_to test n ≡ true) → (any_to test n || test n) ≡ true
    go (inl same) later = rw (ap test (sym same) ∙ e) (or-true (any_to test n))
    go (inr k) later = rw (later k)

pub any_same : (test other : ℕ → Bool) (n : ℕ) → ((i : ℕ) → i < n → test i ≡ other i) → any_to test n ≡ any_to other n
unfolding any_to
any_same test other zero h = refl
any_same test other (suc n) h = rw (h n (omega arith), any_same test other n (λ i l. h i (omega arith)))
