-- The number at the front of some bytes, by the digit that stands there.
--     number_none    no digit: no number
--     number_zero    `0` is a number by itself
--     number_more    another digit begins a number of at most four digits more
use Prim.Native.Nat.{ℕ, ◌-◌, ◌≤◌}
use mathlib.Core.Path.{◌≡◌, refl, ap, sym, ◌∙◌}
use mathlib.Core.Bool.{Bool, true, false}
use mathlib.Core.List.{List}
use native.Mathlib.Omega.{arith}
use lib.Dec.{eqb}
use borrow.Author.Tests.{ne_eqb, eqb-true, eqb-false}
use Rattle.std.specs.Prelude.{if◌then◌else◌}
use Rattle.job_line.specs.Bytes.{next, behind, Found, found, nothing}
use Rattle.job_line.specs.Number.{is_digit, digits, number}
use Rattle.job_line.specs.Internal.Steps.{digit}
use Rattle.job_line.proofs.Digits.{digit_low}

abbrev from_digit : Found ℕ → Found ℕ
from_digit (found d rest) = if eqb d 0 then found 0 rest else digits 4 d rest
from_digit nothing = nothing

module _ (bytes : List ℕ) where
  number_is : number bytes ≡ from_digit (digit bytes)
  unfolding number
  number_is = go (eqb (next bytes) 48) (is_digit (next bytes)) refl refl
    where
      go :
          (zero digit : Bool) → eqb (next bytes) 48 ≡ zero → is_digit (next bytes) ≡ digit →
          (if zero then found 0 (behind bytes) else if digit then digits 4 (next bytes - 48) (behind bytes) else nothing)
          ≡ from_digit (if digit then found (next bytes - 48) (behind bytes) else nothing)
      go true true e f =
          let same : next bytes ≡ 48 = eqb-true (next bytes) 48 e in
          rw same
      go true false e f =
          let is : is_digit (next bytes) ≡ true = rw (eqb-true (next bytes) 48 e) in
          cc
      go false true e f =
          let low : 48 ≤ next bytes = digit_low (next bytes) f in
          let other = eqb-false (next bytes) 48 e in
          rw (ne_eqb (next bytes - 48) 0 (λ none. other (omega (arith, none))))
      go false false e f = refl

  pub number_none : nothing ≡ digit bytes → nothing ≡ number bytes
  number_none e = ap from_digit e ∙ sym number_is

  pub number_zero : (rest : List ℕ) → found 0 rest ≡ digit bytes → found 0 rest ≡ number bytes
  number_zero rest e = ap from_digit e ∙ sym number_is

  pub number_more : (d : ℕ) (rest : List ℕ) → found d rest ≡ digit bytes → (d ≡ 0 → ⊥) → digits 4 d rest ≡ number bytes
  number_more d rest e other = sym (rw (ne_eqb d 0 other) at (sym (ap from_digit e ∙ sym number_is)))

pub ruleset by_digit = (number_none, number_zero, number_more)
