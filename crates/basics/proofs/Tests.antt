-- Laws of tests, and of numbers by whether they are equal.
--     clash, differ      whatever follows from two constructors' being equal; from a test that both passes and fails
--     and_iff, leb_iff   both of two tests; a number at most another
--     if_high            a choice of two numbers within a bound
--     one_of             a number is one of several
--     last_or_below      a number below n + 1 is n or below n
--     one_more           what holds below n, and of n, holds below n + 1
use Prim.Native.Nat.{ℕ, suc, ◌+◌, ◌≤◌, ◌<◌}
use mathlib.Core.Path.{◌≡◌, subst⁻¹}
use mathlib.Core.Logic.{◌↔◌, ◌⊎◌, inl, inr}
use mathlib.Core.Bool.{Bool, true, false, ◌&&◌, ◌||◌}
use native.Mathlib.Nat.{le_of_suc-le-suc, eq-or-lt_of_le}
use native.Mathlib.Omega.{arith}
use lib.Dec.{T, leb, eqb, leb→le, le→leb, eqb→eq}
use Rattle.std.specs.Prelude.{if◌then◌else◌}

-- Two constructors are never equal: `cc` makes any claim of that kind into this one.
pub clash : {A : Type 0} → ◌≡◌ {A = ℕ} 0 1 → A
clash e = absurd (omega arith)

pub differ : {A : Type 0} {b : Bool} → b ≡ true → b ≡ false → A
differ e f = clash (cc)

pub and_iff : (a b : Bool) → T (a && b) ↔ (T a × T b)
and_iff true b = (λ h. (tt, h), λ h. h.1)
and_iff false b = (λ h. absurd h, λ h. h.0)

pub leb_iff : (m n : ℕ) → T (leb m n) ↔ (m ≤ n)
leb_iff m n = (leb→le m n, le→leb m n)

pub if_high : {x y n : ℕ} (b : Bool) → x ≤ n → y ≤ n → (if b then x else y) ≤ n
if_high true h k = h
if_high false h k = k

pub one_of : {B : Type 0} (n a : ℕ) (others : Bool) → (T others → B) → T (eqb n a || others) → (n ≡ a) ⊎ B
one_of {B} n a others f h = go (eqb n a) (eqb→eq n a) h
  where
    go : (t : Bool) → (T t → n ≡ a) → T (t || others) → (n ≡ a) ⊎ B
    go true is h = inl (is tt)
    go false is h = inr (f h)

pub last_or_below : (i n : ℕ) → i < suc n → (i ≡ n) ⊎ (i < n)
last_or_below i n l = eq-or-lt_of_le (le_of_suc-le-suc l)

pub one_more :
    (P : ℕ → Type 0) (n : ℕ) → ((i : ℕ) → i < n → P i) → P n → (i : ℕ) → i < n + 1 → P i
one_more P n below here i l = go (last_or_below i n (omega arith))
  where
    go : (i ≡ n) ⊎ (i < n) → P i
    go (inl same) = subst⁻¹ P same here
    go (inr k) = below i k
