-- Digits that are written are read back, and digits that are read were written. Reading takes the digits from the left,
-- `v * 10 + d`; writing takes them from the right, `n / 10` and `n % 10`; one step of each undoes the other.
--     written_digits_lem         what is written for a number below `10 ^ count` is read as that number
--     no_more_digits             reading ends where no digit follows
--     digit_back                 writing takes off the digit that reading put on
--     DigitsRead, digits_read    what was read, as digits that are written
use Prim.Native.Nat.{ℕ, zero, suc, ◌+◌, ◌-◌, ◌*◌, ◌/◌, ◌%◌, ◌^◌, ◌≤◌, ◌<◌}
use mathlib.Core.Path.{◌≡◌, refl, sym, ◌∙◌, ap, ap₂}
use mathlib.Core.Bool.{Bool, true, false, ◌&&◌}
use mathlib.Core.List.{List, [], ◌∷◌, ◌++◌, append_assoc}
use native.Mathlib.Omega.{arith}
use native.Mathlib.Nat.{pow-suc, add-suc, suc-add, mul_assoc}
use lib.Dec.{leb}
use borrow.Author.Tests.{leb-true, le-leb}
use Rattle.std.specs.Prelude.{if◌then◌else◌}
use Rattle.job_line.specs.Bytes.{next, found}
use Rattle.job_line.specs.Number.{is_digit, digits}
use Rattle.job_line.specs.WrittenNumber.{written_digits}

one_digit :
    (left v b : ℕ) (rest : List ℕ) → 48 ≤ b → b ≤ 57 →
    digits (suc left) v (b ∷ rest) ≡ digits left (v * 10 + (b - 48)) rest
unfolding digits
one_digit left v b rest low high = rw (le-leb 48 b low, le-leb b 57 high)

pub written_digits_lem :
    (count left v n : ℕ) (rest : List ℕ) →
    n < 10 ^ count →
    digits (count + left) v (written_digits count n ++ rest) ≡ digits left (v * 10 ^ count + n) rest
unfolding written_digits
written_digits_lem zero left v n rest h = ap₂ (λ l w. digits l w rest) (omega arith) (omega arith)
written_digits_lem (suc count) left v n rest h =
    let bound : n < 10 ^ count * 10 = rw pow-suc at h in
    rw (append_assoc, suc-add count left, ← add-suc)
    (written_digits_lem count (suc left) v (n / 10) ((48 + n % 10) ∷ rest) (omega arith)
    ∙ one_digit left (v * 10 ^ count + n / 10) (48 + n % 10) rest (omega arith) (omega arith)
    ∙ ap (λ w. digits left w rest) (rw (pow-suc, ← mul_assoc) (omega arith)))

pub no_more_digits : (left v : ℕ) (rest : List ℕ) → is_digit (next rest) ≡ false → digits left v rest ≡ found v rest
unfolding digits
no_more_digits zero v rest e = refl
no_more_digits (suc left) v rest e = rw e

-- What was read behind `sofar` digits of `v`: all together are `size` digits of `w`, and the first of them is not 0 if the
-- first of `v` is not.
pub record DigitsRead (left sofar v : ℕ) (bytes : List ℕ) (w : ℕ) (rest : List ℕ) : Type 0 where
  pub size : ℕ
  pub within : size ≤ sofar + left
  pub were : written_digits sofar v ++ bytes ≡ written_digits size w ++ rest
  pub high : v < 10 ^ sofar → w < 10 ^ size
  pub low : 10 ^ sofar ≤ v * 10 → 10 ^ size ≤ w * 10

-- Writing takes the digit off again that reading put on.
pub digit_back :
    (sofar v b : ℕ) (rest : List ℕ) → 48 ≤ b → b ≤ 57 →
    written_digits (suc sofar) (v * 10 + (b - 48)) ++ rest ≡ written_digits sofar v ++ (b ∷ rest)
unfolding written_digits
digit_back sofar v b rest low high =
    let quotient : (v * 10 + (b - 48)) / 10 ≡ v = omega arith in
    let digit : 48 + (v * 10 + (b - 48)) % 10 ≡ b = omega arith in
    rw (append_assoc, quotient, digit)

-- No digit more, and one digit more.
none_read :
    (left sofar v : ℕ) (bytes : List ℕ) (w : ℕ) (rest : List ℕ) →
    found v bytes ≡ found w rest → DigitsRead left sofar v bytes w rest
none_read left sofar v bytes w rest e =
    let same : v ≡ w = cc in
    record {
      size = sofar;
      within = omega arith;
      were = cc;
      high = λ h. omega arith;
      low = λ h. omega arith;
    }

one_read :
    (left sofar v b : ℕ) (bytes : List ℕ) (w : ℕ) (rest : List ℕ) → 48 ≤ b → b ≤ 57 →
    DigitsRead left (suc sofar) (v * 10 + (b - 48)) bytes w rest →
    DigitsRead (suc left) sofar v (b ∷ bytes) w rest
one_read left sofar v b bytes w rest low high r = record {
  size = r.size;
  within = omega (arith, r.within);
  were = sym (digit_back sofar v b bytes low high) ∙ r.were;
  high = λ h. r.high (rw pow-suc (omega arith));
  low = λ h. r.low (rw pow-suc (omega arith));
}

pub digits_read :
    (left sofar v : ℕ) (bytes : List ℕ) (w : ℕ) (rest : List ℕ) →
    digits left v bytes ≡ found w rest → DigitsRead left sofar v bytes w rest
unfolding digits
digits_read zero sofar v bytes w rest e = none_read zero sofar v bytes w rest e
digits_read (suc left) sofar v [] w rest e = none_read (suc left) sofar v [] w rest e
digits_read (suc left) sofar v (b ∷ bytes) w rest e =
    go (digits_read left (suc sofar) (v * 10 + (b - 48)) bytes w rest) (leb 48 b) (leb b 57) refl refl e
  where
    go :
        (digits left (v * 10 + (b - 48)) bytes ≡ found w rest →
        DigitsRead left (suc sofar) (v * 10 + (b - 48)) bytes w rest) →
        (low high : Bool) → leb 48 b ≡ low → leb b 57 ≡ high →
        (if low && high then digits left (v * 10 + (b - 48)) bytes else found v (b ∷ bytes)) ≡ found w rest →
        DigitsRead (suc left) sofar v (b ∷ bytes) w rest
    go read true true p q f = one_read left sofar v b bytes w rest (leb-true 48 b p) (leb-true b 57 q) (read f)
    go read true false p q f = none_read (suc left) sofar v (b ∷ bytes) w rest f
    go read false high p q f = none_read (suc left) sofar v (b ∷ bytes) w rest f
