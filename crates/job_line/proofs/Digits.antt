-- Digits and the numbers that they make.
--     digit_low, digit_high   a digit's byte is one from `0` to `9`
--     digits_more             one digit more: the value so far times ten and the digit, with one fewer left
--     digits_stop             no digit next: the value so far
--     digits_none             none left: the value so far
--     Begun                   what holds in the midst of digits: those from here on, behind the value so far, are what was to
--                             be read, and k digits make less than 10 ^ k
--     begun_digit             one digit more
--     begun_stop, begun_none  no digit next, or none left: the value so far is what was to be read
use Prim.Native.Nat.{ℕ, zero, suc, ◌+◌, ◌-◌, ◌*◌, ◌^◌, ◌≤◌, ◌<◌}
use mathlib.Core.Path.{◌≡◌, refl, sym, ◌∙◌}
use mathlib.Core.Bool.{Bool, true, false, and-eq-true_iff}
use mathlib.Core.List.{List}
use native.Mathlib.Omega.{arith}
use lib.Dec.{leb}
use borrow.Author.Tests.{leb-true}
use Rattle.std.specs.Prelude.{if◌then◌else◌}
use Rattle.job_line.specs.Bytes.{next, behind, Found, found, nothing}
use Rattle.job_line.specs.Number.{is_digit, digits}
use Rattle.job_line.specs.Internal.Steps.{digit}

pub digit_low : (b : ℕ) → is_digit b ≡ true → 48 ≤ b
digit_low b e = leb-true 48 b ((and-eq-true_iff (leb 48 b) (leb b 57)).0 e).0

pub digit_high : (b : ℕ) → is_digit b ≡ true → b ≤ 57
digit_high b e = leb-true b 57 ((and-eq-true_iff (leb 48 b) (leb b 57)).0 e).1

pub digits_more :
    (left v : ℕ) (bytes : List ℕ) (d : ℕ) (rest : List ℕ) → 0 < left → found d rest ≡ digit bytes →
    digits left v bytes ≡ digits (left - 1) (v * 10 + d) rest
unfolding digits
digits_more zero v bytes d rest h e = absurd (omega arith)
digits_more (suc left) v bytes d rest h e = go (is_digit (next bytes)) e
  where
    one_less : suc left - 1 ≡ left
    one_less = omega arith

    go :
        (t : Bool) → found d rest ≡ (if t then found (next bytes - 48) (behind bytes) else nothing) →
        (if t then digits left (v * 10 + (next bytes - 48)) (behind bytes) else found v bytes)
        ≡ digits (suc left - 1) (v * 10 + d) rest
    go true e =
        let same : next bytes - 48 ≡ d = cc in
        let after : behind bytes ≡ rest = cc in
        rw (one_less, same, after)
    go false e = cc

pub digits_stop : (left v : ℕ) (bytes : List ℕ) → nothing ≡ digit bytes → digits left v bytes ≡ found v bytes
unfolding digits
digits_stop zero v bytes e = refl
digits_stop (suc left) v bytes e = go (is_digit (next bytes)) e
  where
    go :
        (t : Bool) → nothing ≡ (if t then found (next bytes - 48) (behind bytes) else nothing) →
        (if t then digits left (v * 10 + (next bytes - 48)) (behind bytes) else found v bytes) ≡ found v bytes
    go true e = cc
    go false e = refl

pub digits_none : (left v : ℕ) (bytes : List ℕ) → left ≤ 0 → digits left v bytes ≡ found v bytes
unfolding digits
digits_none zero v bytes h = refl
digits_none (suc left) v bytes h = absurd (omega arith)

tenfold : (read v d : ℕ) → read < 4 → v < 10 ^ (read + 1) → d ≤ 9 → v * 10 + d < 10 ^ (read + 1 + 1)
tenfold zero v d l s h = omega arith
tenfold (suc zero) v d l s h = omega arith
tenfold (suc (suc zero)) v d l s h = omega arith
tenfold (suc (suc (suc zero))) v d l s h = omega arith
tenfold (suc (suc (suc (suc read)))) v d l s h = absurd (omega arith)

pub record Begun (asked : Found ℕ) (bytes : List ℕ) (value read : ℕ) : Type 0 where
  pub rest : digits (4 - read) value bytes ≡ asked
  pub small : value < 10 ^ (read + 1)

module _ (asked : Found ℕ) (bytes : List ℕ) (value read : ℕ) (begun : Begun asked bytes value read) where
  pub begun_digit :
      (d : ℕ) (rest : List ℕ) → read < 4 → found d rest ≡ digit bytes → d ≤ 9 → Begun asked rest (value * 10 + d) (read + 1)
  begun_digit d rest few one small =
      let one_less : 4 - read - 1 ≡ 4 - (read + 1) = omega arith in
      record {
        rest = sym (rw one_less at (digits_more (4 - read) value bytes d rest (omega arith) one)) ∙ begun.rest;
        small = tenfold read value d few begun.small small;
      }

  pub begun_stop : nothing ≡ digit bytes → found value bytes ≡ asked
  begun_stop other = sym (digits_stop (4 - read) value bytes other) ∙ begun.rest

  pub begun_none : 4 ≤ read → found value bytes ≡ asked
  begun_none all = sym (digits_none (4 - read) value bytes (omega arith)) ∙ begun.rest
