-- Laws of sets of glasses: when a set is within another. What each operation on words makes of each glass is said by the laws of
-- the bits of words, in bits/proofs/Bits.antt.
--     has_none               no glass is in the empty set
--     within_at, within_of   a set is within another where every glass of it is in the other
--     within_not             it is not where a glass of it is not in the other
--     within_minus           it is where no glass of it is left without the other's
--     within_trans           within a set that is within a third
--     within_out             a glass that is not in the greater set is not in the smaller
--     unvisited_le           a set with every glass of another leaves at most as many
--     unvisited_less         with one glass more, it leaves fewer
--     unvisited_some         a set without a glass leaves at least one
--     unvisited_most         no set leaves more than 64
use Prim.Native.Nat.{ℕ, ◌^◌, ◌≤◌, ◌<◌}
use mathlib.Core.Path.{◌≡◌, refl, ap, sym, ◌∙◌}
use mathlib.Core.Bool.{Bool, true, false, not, ◌&&◌, ◌||◌}
use native.Mathlib.Omega.{arith}
use borrow.Author.Tests.{eqb-true, eqb-false, not-true, not-false}
use lib.Count.{count_trailing_zeros}
use lib.Dec.{eqb}
use Rattle.ranges.specs.Internal.Counts.{one}
use Rattle.basics.proofs.Tests.{differ}
use Rattle.ranges.proofs.Sums.{sum_le, sum_less}
use Rattle.ranges.proofs.Counts.{one_le, count_le}
use Rattle.ranges.proofs.All.{all_at, all_of, all_not}
use Rattle.bits.proofs.Bits.{first_has}
use Rattle.glass_set.specs.Internal.Member.{has, Members, Within, is_within, unvisited}
pub use Rattle.bits.proofs.Bits.{has_none}

pub within_at : (a b : ℕ) → is_within a b ≡ true → Within a b
within_at a b all g l is = rw is at (all_at (λ i. not (has a i) || has b i) 64 all g l)

pub within_of : (a b : ℕ) → Within a b → is_within a b ≡ true
within_of a b h = all_of (λ g. not (has a g) || has b g) 64 (λ g l. implied (has a g) (has b g) (h g l))
  where
    implied : (p q : Bool) → (p ≡ true → q ≡ true) → (not p || q) ≡ true
    implied true q h = h refl
    implied false q h = refl

pub within_not : (a b g : ℕ) → g < 64 → has a g ≡ true → has b g ≡ false → is_within a b ≡ false
within_not a b g l is is_not = all_not (λ i. not (has a i) || has b i) 64 g l (rw (is, is_not))

pub within_minus : (r a b : ℕ) → r < 2 ^ 64 → Members r (λ g. has a g && not (has b g)) → eqb r 0 ≡ is_within a b
within_minus r a b l h = go (eqb r 0) refl
  where
    apart : (p q : Bool) → (p && not q) ≡ true → (p ≡ true) × (q ≡ false)
    apart true q e = (refl, not-true q e)
    apart false q e = (e, cc)

    go : (t : Bool) → eqb r 0 ≡ t → t ≡ is_within a b
    go true e =
        let empty : (g : ℕ) → has r g ≡ false = λ g. ap (λ (x : ℕ). has x g) (eqb-true r 0 e) ∙ has_none g in
        sym (within_of a b (λ g k is. not-false (has b g) (sym (rw is at (h g k)) ∙ empty g)))
    go false e =
        let g = count_trailing_zeros 64 r in
        let found = first_has r (eqb-false r 0 e) l in
        let only = apart (has a g) (has b g) (sym (h g found.0) ∙ found.1) in
        sym (within_not a b g found.0 only.0 only.1)

pub within_trans : (a b c : ℕ) → Within a b → Within b c → Within a c
within_trans a b c f g i l e = g i l (f i l e)

pub within_out : (a b g : ℕ) → Within a b → g < 64 → has b g ≡ false → has a g ≡ false
within_out a b g f l out = go (has a g) refl
  where
    go : (x : Bool) → has a g ≡ x → x ≡ false
    go true e = differ (f g l e) out
    go false e = refl

-- What a glass adds to those that are not in a set.
abbrev missing : ℕ → ℕ → ℕ
missing set g = one (not (has set g))

missing_le : (a b g : ℕ) → Within a b → g < 64 → missing b g ≤ missing a g
missing_le a b g f l =
    one_le (not (has b g)) (not (has a g)) (λ e. rw (within_out a b g f l (not-true (has b g) e)))

pub unvisited_le : (a b : ℕ) → Within a b → unvisited b ≤ unvisited a
unvisited_le a b f = sum_le (missing b) (missing a) 64 (λ g l. missing_le a b g f l)

pub unvisited_less :
    (a b g : ℕ) → g < 64 → has a g ≡ false → has b g ≡ true → Within a b → unvisited b < unvisited a
unvisited_less a b g l out is f =
    sum_less (missing b) (missing a) 64 g l (λ i k. missing_le a b i f k) (rw (is, out) (omega arith))

pub unvisited_some : (a g : ℕ) → g < 64 → has a g ≡ false → 0 < unvisited a
unvisited_some a g l out =
    omega (arith, sum_less (λ i. 0) (missing a) 64 g l (λ i k. omega arith) (rw out (omega arith)))

pub unvisited_most : (set : ℕ) → unvisited set ≤ 64
unvisited_most set = count_le (λ g. not (has set g)) 64
