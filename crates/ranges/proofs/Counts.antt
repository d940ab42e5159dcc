-- Laws of counts over the numbers below a bound.
--     one_le                     a test adds at most 1, and no more than a test that passes wherever it does
--     count_le                   a count is at most the bound
--     count_same, count_fewer    two tests that agree; a test that passes only where another does
--     count_none                 a test that no number passes
--     count_less                 a test that some number does not pass
--     count_not                  a count and the count of the rest are the bound
--     count_all                  a count as great as the bound: every number passes
--     count_by                   the numbers that have one of some values below a bound, counted value by value
use Prim.Native.Nat.{ℕ, zero, suc, ◌+◌, ◌≤◌, ◌<◌}
use mathlib.Core.Path.{◌≡◌, refl, ap, sym, ◌∙◌}
use mathlib.Core.Logic.{◌⊎◌, inl, inr}
use mathlib.Core.Bool.{Bool, true, false, not, ◌&&◌, and-true, and-false}
use native.Mathlib.Nat.{le_refl}
use native.Mathlib.Omega.{arith}
use lib.Dec.{ltb, eqb}
use borrow.Author.Tests.{ltb-true, ltb-false, lt-ltb, le-ltb, eq-eqb, ne_eqb}
use Rattle.std.specs.Prelude.{if◌then◌else◌}
use Rattle.ranges.specs.Ranges.{sum_to}
use Rattle.ranges.specs.Internal.Counts.{one, count_to}
use Rattle.basics.proofs.Tests.{last_or_below}
use Rattle.ranges.proofs.Sums.{sum_zero, sum_cong, sum_le, sum_add, sum_less}

pub one_le : (a b : Bool) → (a ≡ true → b ≡ true) → one a ≤ one b
one_le true b h = rw (h refl) (le_refl 1)
one_le false b h = omega arith

pub count_le : (test : ℕ → Bool) (n : ℕ) → count_to test n ≤ n
unfolding sum_to
count_le test zero = omega arith
count_le test (suc n) = omega (arith, count_le test n, one_le (test n) true (λ e. refl))

module _ (test other : ℕ → Bool) (n : ℕ) where
  pub count_same : ((i : ℕ) → i < n → test i ≡ other i) → count_to test n ≡ count_to other n
  count_same h = sum_cong (λ i. one (test i)) (λ i. one (other i)) n (λ i l. ap one (h i l))

  pub count_fewer : ((i : ℕ) → i < n → test i ≡ true → other i ≡ true) → count_to test n ≤ count_to other n
  count_fewer h = sum_le (λ i. one (test i)) (λ i. one (other i)) n (λ i l. one_le (test i) (other i) (h i l))

pub count_none : (test : ℕ → Bool) (n : ℕ) → ((i : ℕ) → i < n → test i ≡ false) → count_to test n ≡ 0
count_none test n h = sum_zero (λ i. one (test i)) n (λ i l. ap one (h i l))

pub count_less : (test : ℕ → Bool) (n i : ℕ) → i < n → test i ≡ false → count_to test n < n
count_less test n i l failed =
    let less = sum_less (λ j. one (test j)) (λ j. 1) n i l (λ j k. one_le (test j) true (λ e. refl)) (rw failed (omega arith)) in
    omega (arith, less, count_le (λ j. true) n)

pub count_not : (test : ℕ → Bool) (n : ℕ) → count_to test n + count_to (λ i. not (test i)) n ≡ n
unfolding sum_to
count_not test zero = refl
count_not test (suc n) = omega (arith, count_not test n, either (test n))
  where
    either : (b : Bool) → one b + one (not b) ≡ 1
    either true = refl
    either false = refl

pub count_all : (test : ℕ → Bool) (n : ℕ) → count_to test n ≡ n → (i : ℕ) → i < n → test i ≡ true
count_all test n all i l = go (test i) refl
  where
    go : (b : Bool) → test i ≡ b → b ≡ true
    go true is = refl
    go false is =
        let fewer =
        sum_less (λ j. one (test j)) (λ j. one true) n i l (λ j k. one_le (test j) true (λ e. refl)) (rw is (omega arith)) in
        absurd (omega (arith, all, fewer, count_le (λ j. true) n))

-- A test that asks of every number the same thing besides.
count_and : (b : Bool) (test : ℕ → Bool) (n : ℕ) → (if b then count_to test n else 0) ≡ count_to (λ i. b && test i) n
count_and true test n = refl
count_and false test n = sym (count_none (λ i. false) n (λ i l. refl))

module _ (some : ℕ → Bool) where
  -- One of the values below m + 1 is one of those below m, or m.
  next_value : (x m : ℕ) → one (ltb x (suc m) && some x) ≡ one (ltb x m && some x) + one (some m && eqb x m)
  next_value x m = go (ltb x (suc m)) refl
    where
      below : (x ≡ m) ⊎ (x < m) → one (some x) ≡ one (ltb x m && some x) + one (some m && eqb x m)
      below (inl e) = rw (e, le-ltb m m (omega arith), eq-eqb m m refl, and-true (some m)) (omega arith)
      below (inr l) = rw (lt-ltb x m l, ne_eqb x m (λ e. omega arith), and-false (some m)) (omega arith)

      go : (b : Bool) → ltb x (suc m) ≡ b → one (b && some x) ≡ one (ltb x m && some x) + one (some m && eqb x m)
      go true is = below (last_or_below x m (ltb-true x (suc m) is))
      go false is =
          let above = ltb-false x (suc m) is in
          rw (le-ltb x m (omega arith), ne_eqb x m (λ e. omega arith), and-false (some m))

  module _ (value : ℕ → ℕ) (n : ℕ) where
    count_more :
        (m : ℕ) →
        count_to (λ i. ltb (value i) (suc m) && some (value i)) n ≡
        count_to (λ i. ltb (value i) m && some (value i)) n + (if some m then count_to (λ i. eqb (value i) m) n else 0)
    count_more m = rw (count_and (some m)) (sum_cong _ _ n (λ i l. next_value (value i) m) ∙ sum_add _ _ n)

    pub count_by :
        (m : ℕ) →
        sum_to (λ v. if some v then count_to (λ i. eqb (value i) v) n else 0) m ≡
        count_to (λ i. ltb (value i) m && some (value i)) n
    unfolding sum_to
    count_by zero =
        sym (count_none (λ i. ltb (value i) 0 && some (value i)) n (λ i l. rw (le-ltb (value i) 0 (omega arith))))
    count_by (suc m) = omega (arith, count_by m, count_more m)
