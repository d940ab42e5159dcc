-- A trailer that is written is read back, and bytes that are read as a trailer are what is written for its two offsets: five
-- digits and the number that they make give each other.
--     length_trailer         a trailer has 14 bytes
--     written_trailer_lem    what is written for two offsets below 100000 is read as those offsets
--     trailer_read           bytes that are read as two offsets are what is written for them
use Prim.Native.Nat.{ℕ, zero, suc, ◌+◌, ◌-◌, ◌*◌, ◌/◌, ◌%◌, ◌^◌, ◌<◌}
use mathlib.Core.Path.{◌≡◌, refl, ◌∙◌, ap}
use mathlib.Core.Bool.{Bool, true, false, ◌&&◌}
use mathlib.Core.List.{List, [], ◌∷◌, ◌++◌}
use native.Mathlib.Omega.{arith}
use lib.Dec.{eqb}
use lib.ListN.{length, get_or, drop, drop_of_length-le}
use lib.Seq.{drop-cons}
use borrow.Author.Tests.{eqb-true, le-leb}
use Rattle.std.specs.Prelude.{if◌then◌else◌}
use Rattle.std.proofs.Math.Bool.{and-eq-true_iff}
use Rattle.job_line.specs.Bytes.{newline, space, letter_t}
use Rattle.job_line.specs.Number.{is_digit}
use Rattle.job_line.specs.WrittenNumber.{written_digits}
use Rattle.job_line.proofs.Digits.{digit_low, digit_high}
use Rattle.job_file.specs.File.{are_digits, five_digits, offsets, no_trailer, trailer}
use Rattle.job_grammar.specs.Written.{written_trailer}
use Rattle.job_grammar.proofs.Digits.{digit_back}

pub length_trailer : (glass pane : ℕ) → length (written_trailer glass pane) ≡ 14
unfolding written_trailer written_digits
length_trailer glass pane = refl

-- What is written for a number, as five digits that are read.
written_digit : (n : ℕ) → is_digit (48 + n % 10) ≡ true
written_digit n = rw (le-leb 48 (48 + n % 10) (omega arith), le-leb (48 + n % 10) 57 (omega arith))

written_five :
    (n : ℕ) → n < 10 ^ 5 →
    five_digits (48 + n / 10 / 10 / 10 / 10 % 10) (48 + n / 10 / 10 / 10 % 10) (48 + n / 10 / 10 % 10) (48 + n / 10 % 10) (48 + n % 10) ≡ n
written_five n small = omega arith

pub written_trailer_lem :
    (glass pane : ℕ) → glass < 10 ^ 5 → pane < 10 ^ 5 → trailer (written_trailer glass pane) ≡ offsets glass pane
unfolding trailer written_trailer written_digits
written_trailer_lem glass pane g p = simp (written_digit, written_five glass g, written_five pane p)

-- Five digits are what is written for the number that they make, taken off from the right.
five_read :
    (a b c d e : ℕ) (rest : List ℕ) → are_digits a b c d e ≡ true →
    written_digits 5 (five_digits a b c d e) ++ rest ≡ a ∷ b ∷ c ∷ d ∷ e ∷ rest
unfolding written_digits
five_read a b c d e rest all =
    let four = (and-eq-true_iff (is_digit a && is_digit b && is_digit c && is_digit d) (is_digit e)).0 all in
    let three = (and-eq-true_iff (is_digit a && is_digit b && is_digit c) (is_digit d)).0 four.0 in
    let two = (and-eq-true_iff (is_digit a && is_digit b) (is_digit c)).0 three.0 in
    let one = (and-eq-true_iff (is_digit a) (is_digit b)).0 two.0 in
    let by_tens :
    five_digits a b c d e
    ≡ ((((0 * 10 + (a - 48)) * 10 + (b - 48)) * 10 + (c - 48)) * 10 + (d - 48)) * 10 + (e - 48) = omega arith in
    rw by_tens
    (back 4 _ e rest four.1
    ∙ back 3 _ d (e ∷ rest) three.1
    ∙ back 2 _ c (d ∷ e ∷ rest) two.1
    ∙ back 1 _ b (c ∷ d ∷ e ∷ rest) one.1
    ∙ back 0 0 a (b ∷ c ∷ d ∷ e ∷ rest) one.0)
  where
    back :
        (count v x : ℕ) (rest : List ℕ) → is_digit x ≡ true →
        written_digits (suc count) (v * 10 + (x - 48)) ++ rest ≡ written_digits count v ++ (x ∷ rest)
    back count v x rest digit = digit_back count v x rest (digit_low x digit) (digit_high x digit)

-- `count` bytes by their positions, from `k` on.
abbrev positions : ℕ → ℕ → List ℕ → List ℕ
positions zero k bytes = []
positions (suc count) k bytes = get_or bytes k 0 ∷ positions count (suc k) bytes

by_position : (count k : ℕ) (bytes : List ℕ) → length bytes ≡ k + count → drop k bytes ≡ positions count k bytes
by_position zero k bytes e = drop_of_length-le bytes {i = k} (omega arith)
by_position (suc count) k bytes e =
    drop-cons bytes k 0 (omega arith) ∙ ap (λ l. get_or bytes k 0 ∷ l) (by_position count (suc k) bytes (omega arith))

passed :
    (test : Bool) (x y glass pane : ℕ) → (if test then offsets x y else no_trailer) ≡ offsets glass pane →
    (test ≡ true) × (x ≡ glass) × (y ≡ pane)
passed true x y glass pane e = (refl, cc, cc)
passed false x y glass pane e = cc

pub trailer_read :
    (bytes : List ℕ) (glass pane : ℕ) → trailer bytes ≡ offsets glass pane → bytes ≡ written_trailer glass pane
unfolding trailer written_trailer
trailer_read bytes glass pane e =
    let at : ℕ → ℕ = λ k. get_or bytes k 0 in
    let first : Bool = are_digits (at 2) (at 3) (at 4) (at 5) (at 6) in
    let second : Bool = are_digits (at 8) (at 9) (at 10) (at 11) (at 12) in
    -- The tests up to each byte or number, and that each of them passed.
    let letter : Bool = eqb (length bytes) 14 && eqb (at 0) letter_t in
    let gap : Bool = letter && eqb (at 1) space in
    let gap' : Bool = gap && first && eqb (at 7) space in
    let test = passed (gap' && second && eqb (at 13) newline) _ _ glass pane e in
    let t6 = (and-eq-true_iff (gap' && second) (eqb (at 13) newline)).0 test.0 in
    let t5 = (and-eq-true_iff gap' second).0 t6.0 in
    let t4 = (and-eq-true_iff (gap && first) (eqb (at 7) space)).0 t5.0 in
    let t3 = (and-eq-true_iff gap first).0 t4.0 in
    let t2 = (and-eq-true_iff letter (eqb (at 1) space)).0 t3.0 in
    let t1 = (and-eq-true_iff (eqb (length bytes) 14) (eqb (at 0) letter_t)).0 t2.0 in
    by_position 14 0 bytes (eqb-true (length bytes) 14 t1.0)
    ∙ rw (
      eqb-true (at 0) letter_t t1.1,
      eqb-true (at 1) space t2.1,
      eqb-true (at 7) space t4.1,
      eqb-true (at 13) newline t6.1,
      ← test.1,
      ← test.2,
      five_read (at 2) (at 3) (at 4) (at 5) (at 6) _ t3.1,
      five_read (at 8) (at 9) (at 10) (at 11) (at 12) _ t5.1,
    )
