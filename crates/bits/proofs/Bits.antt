-- Laws of the bits of words: what each operation on words makes of each bit, by the library's laws of the digit that stands there.
--     has_none            no bit of 0 is set
--     has_and, has_or     the bits that both of two words have; that one of them has
--     has_minus           the bits of a word that another has not
--     has_one             the word of one bit
--     first_has           the digit above the trailing zeros is a bit of a word that is not 0
--     none_below          no digit among the trailing zeros is a bit
use Prim.Native.Nat.{ℕ, zero, suc, ◌-◌, ◌*◌, ◌/◌, ◌%◌, ◌^◌, ◌<◌, min, max}
use mathlib.Core.Path.{◌≡◌, refl, ◌∙◌}
use mathlib.Core.Bool.{Bool, true, false, not, ◌&&◌, ◌||◌}
use native.Mathlib.Nat.{one-mul}
use native.Mathlib.Omega.{arith}
use borrow.Author.Tests.{eqb-true, eqb-false}
use lib.Bits.{bit_and, bit_or}
use lib.Count.{count_trailing_zeros}
use lib.Dec.{eqb}
use lib.Pow.{shl_exact}
use mir.Syntax.{w64}
use Rattle.std.proofs.lemmas.Nat.Bits.{bit_at_and, bit_at_or, bit_at_not, bit_at-zero}
use Rattle.std.proofs.lemmas.Nat.Bits.{bit_at-pow_same, bit_at-pow_other, bit_at-trailing_zeros}
use Rattle.bits.specs.Internal.Bit.{has}

-- What holds of any two digits.
on_digits : (P : ℕ → ℕ → Type 0) → P 0 0 → P 0 1 → P 1 0 → P 1 1 → (m n : ℕ) → P (m % 2) (n % 2)
on_digits P none second first both m n = go (m % 2) (n % 2) (omega arith) (omega arith)
  where
    go : (d e : ℕ) → d < 2 → e < 2 → P d e
    go zero zero l k = none
    go zero (suc zero) l k = second
    go (suc zero) zero l k = first
    go (suc zero) (suc zero) l k = both
    go (suc (suc d)) e l k = absurd (omega arith)
    go zero (suc (suc e)) l k = absurd (omega arith)
    go (suc zero) (suc (suc e)) l k = absurd (omega arith)

pub has_none : (i : ℕ) → has 0 i ≡ false
unfolding has
has_none i = rw (bit_at-zero i)

module _ (a b i : ℕ) where
  pub has_and : has (bit_and a b) i ≡ (has a i && has b i)
  unfolding has
  has_and =
      rw (bit_at_and a b i)
      (on_digits (λ d e. eqb (min d e) 1 ≡ (eqb d 1 && eqb e 1)) refl refl refl refl (a / 2 ^ i) (b / 2 ^ i))

  pub has_or : has (bit_or a b) i ≡ (has a i || has b i)
  unfolding has
  has_or =
      rw (bit_at_or a b i)
      (on_digits (λ d e. eqb (max d e) 1 ≡ (eqb d 1 || eqb e 1)) refl refl refl refl (a / 2 ^ i) (b / 2 ^ i))

pub has_minus : (a b i : ℕ) → b < 2 ^ 64 → i < 64 → has (bit_and a (2 ^ 64 - 1 - b)) i ≡ (has a i && not (has b i))
unfolding has
has_minus a b i l h =
    has_and a (2 ^ 64 - 1 - b) i
    ∙ rw (bit_at_not w64 b i l h)
    (on_digits (λ d e. (eqb d 1 && eqb (1 - e) 1) ≡ (eqb d 1 && not (eqb e 1))) refl refl refl refl (a / 2 ^ i) (b / 2 ^ i))

pub has_one : (k i : ℕ) → k < 64 → has (1 * 2 ^ k % 2 ^ 64) i ≡ eqb i k
unfolding has
has_one k i l = rw (shl_exact {a = 1} 1 k 64 (omega arith) (omega arith), one-mul) (go (eqb i k) refl)
  where
    go : (b : Bool) → eqb i k ≡ b → eqb (2 ^ k / 2 ^ i % 2) 1 ≡ b
    go true same = rw (eqb-true i k same, bit_at-pow_same k)
    go false other = rw (bit_at-pow_other k i (eqb-false i k other))

pub first_has :
    (word : ℕ) → (word ≡ 0 → ⊥) → word < 2 ^ 64 →
    (count_trailing_zeros 64 word < 64) × (has word (count_trailing_zeros 64 word) ≡ true)
unfolding has
first_has word some l = let at = bit_at-trailing_zeros w64 word (omega (arith, some)) l in (at.0, rw at.1)

pub none_below : (word i : ℕ) → word < 2 ^ 64 → i < count_trailing_zeros 64 word → has word i ≡ false
unfolding has
none_below word i l below = go (eqb word 0) refl
  where
    go : (b : Bool) → eqb word 0 ≡ b → eqb (word / 2 ^ i % 2) 1 ≡ false
    go true none = rw (eqb-true word 0 none, bit_at-zero i)
    go false some = rw ((bit_at-trailing_zeros w64 word (omega (arith, eqb-false word 0 some)) l).2 i below)
