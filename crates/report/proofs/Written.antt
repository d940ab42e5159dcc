-- Numbers as they are written: what the library prints of them, and how long that is.
--     number_printed            a number of at most five digits is written as the library prints it
--     number_five, number_four  it has at most five digits, and one up to 9999 has at most four
use Prim.Native.Nat.{ℕ, suc, ◌+◌, ◌/◌, ◌%◌, ◌≤◌, ◌<◌}
use mathlib.Core.Path.{◌≡◌, ap, sym}
use mathlib.Core.Logic.{inl, inr}
use mathlib.Core.List.{List, [], ◌∷◌, ◌++◌, append_assoc, append-nil}
use native.Mathlib.Numerals.{add-one}
use native.Mathlib.Omega.{arith}
use lib.ListN.{length, get_or, take}
use borrow.Author.Tests.{lt-ltb, le-ltb}
use Rattle.std.specs.Fmt.{decimal}
use Rattle.std.proofs.lemmas.Bool.{cases_lt}
use Rattle.std.proofs.lemmas.List.{take_more}
use Rattle.std.proofs.lemmas.Fmt.{decimal_digit, decimal_step, length-decimal-le}
use Rattle.job_line.specs.Bytes.{space}
use Rattle.job_line.specs.WrittenNumber.{written_digits, digit_count, written_number, written_numbers}
use Rattle.report.specs.Text.{pair_line, pane_lines}

one_digit : (n : ℕ) → n < 10 → written_digits 1 n ≡ decimal n
unfolding written_digits
one_digit n small = let same : n % 10 ≡ n = omega arith in rw (decimal_digit n small, same)

next_digit :
    (count n : ℕ) → 10 ≤ n → n ≤ 99999 → written_digits count (n / 10) ≡ decimal (n / 10) → written_digits (suc count) n ≡ decimal n
unfolding written_digits
next_digit count n low high is = rw (is, decimal_step n low (omega arith))

two_digits : (n : ℕ) → 10 ≤ n → n < 100 → written_digits 2 n ≡ decimal n
two_digits n low high = next_digit 1 n low (omega arith) (one_digit (n / 10) (omega arith))

three_digits : (n : ℕ) → 100 ≤ n → n < 1000 → written_digits 3 n ≡ decimal n
three_digits n low high = next_digit 2 n (omega arith) (omega arith) (two_digits (n / 10) (omega arith) (omega arith))

four_digits : (n : ℕ) → 1000 ≤ n → n < 10000 → written_digits 4 n ≡ decimal n
four_digits n low high = next_digit 3 n (omega arith) (omega arith) (three_digits (n / 10) (omega arith) (omega arith))

five_digits : (n : ℕ) → 10000 ≤ n → n ≤ 99999 → written_digits 5 n ≡ decimal n
five_digits n low high = next_digit 4 n (omega arith) (omega arith) (four_digits (n / 10) (omega arith) (omega arith))

pub number_printed : (n : ℕ) → n ≤ 99999 → written_number n ≡ decimal n
unfolding written_number digit_count
number_printed n high =
    elim (cases_lt n 10) [
      | inl less ↦ rw (lt-ltb n 10 less) (one_digit n less)
      | inr more ↦
          rw (le-ltb n 10 more)
          (elim (cases_lt n 100) [
            | inl less ↦ rw (lt-ltb n 100 less) (two_digits n more less)
            | inr more ↦
                rw (le-ltb n 100 more)
                (elim (cases_lt n 1000) [
                  | inl less ↦ rw (lt-ltb n 1000 less) (three_digits n more less)
                  | inr more ↦
                      rw (le-ltb n 1000 more)
                      (elim (cases_lt n 10000) [
                        | inl less ↦ rw (lt-ltb n 10000 less) (four_digits n more less)
                        | inr more ↦ rw (le-ltb n 10000 more) (five_digits n more high)
                      ])
                ])
          ])
    ]

pub number_five : (n : ℕ) → n ≤ 99999 → length (decimal n) ≤ 5
number_five n high = length-decimal-le 5 n (omega arith) (omega arith) (omega arith)

pub number_four : (n : ℕ) → n ≤ 9999 → length (decimal n) ≤ 4
number_four n high = length-decimal-le 4 n (omega arith) (omega arith) (omega arith)

-- One number more, a space before it.
numbers_next : (ns : List ℕ) (n : ℕ) → written_numbers (ns ++ (n ∷ [])) ≡ written_numbers ns ++ (space ∷ written_number n)
unfolding written_numbers
numbers_next [] n = ap (λ (l : List ℕ). space ∷ l) (append-nil (written_number n))
numbers_next (m ∷ ns) n =
    rw (numbers_next ns n)
    (ap (λ (l : List ℕ). space ∷ l) (sym (append_assoc (written_number m) (written_numbers ns) (space ∷ written_number n))))

pub fields_next :
    (ns : List ℕ) (k : ℕ) → k < length ns →
    written_numbers (take (k + 1) ns) ≡ written_numbers (take k ns) ++ (space ∷ written_number (get_or ns k 0))
fields_next ns k within = rw (take_more ns k 0 within, numbers_next (take k ns) (get_or ns k 0))

-- One pane's line more.
pub lines_next :
    (ids answers : List ℕ) (n pane glass : ℕ) → pane ≡ get_or ids n 0 → glass ≡ get_or answers n 0 →
    pane_lines ids answers (n + 1) ≡ pane_lines ids answers n ++ pair_line pane glass
unfolding pane_lines
lines_next ids answers n pane glass pane_is glass_is = rw (add-one n, pane_is, glass_is)
