-- A number that is written is read back, and a number that is read was written. A number up to 99999 other than 0 has a
-- first digit other than 0, and then as many digits as its size says, so there is one way to write it.
--     written_number_lem    what is written for a number up to 99999 is read as that number, if no digit follows
--     number_read           what is read as a number is what is written for it
use Prim.Native.Nat.{ℕ, zero, suc, ◌+◌, ◌-◌, ◌*◌, ◌/◌, ◌%◌, ◌^◌, ◌≤◌, ◌<◌}
use mathlib.Core.Path.{◌≡◌, refl, ◌∙◌, ap}
use mathlib.Core.Bool.{Bool, true, false, ◌&&◌}
use mathlib.Core.List.{List, [], ◌∷◌, ◌++◌, append_assoc}
use native.Mathlib.Omega.{arith}
use native.Mathlib.Nat.{pow-suc, zero-add}
use lib.Dec.{leb, ltb, eqb}
use borrow.Author.Tests.{leb-true, eqb-true, eqb-false, lt-ltb, le-ltb, le-leb, ne_eqb, ltb-true, ltb-false}
use Rattle.std.specs.Prelude.{if◌then◌else◌}
use Rattle.job_line.specs.Bytes.{next, found, nothing}
use Rattle.job_line.specs.Number.{is_digit, digits, number}
use Rattle.job_line.specs.WrittenNumber.{written_digits, digit_count, written_number}
use Rattle.job_grammar.proofs.Digits.{written_digits_lem, no_more_digits, digits_read}

-- A number has one digit more than the power of 10 below it.
record HasDigits (more n : ℕ) : Type 0 where
  low : 10 ^ more ≤ n
  high : n < 10 ^ suc more

has_digits : (most n : ℕ) → 0 < n → n < 10 ^ suc most → (more : ℕ) × (more ≤ most) × HasDigits more n
has_digits zero n h k = (0, omega arith, record { low = omega arith; high = k })
has_digits (suc most) n h k = go (has_digits most n h) (ltb n (10 ^ suc most)) refl
  where
    go :
        (n < 10 ^ suc most → (more : ℕ) × (more ≤ most) × HasDigits more n) →
        (t : Bool) → ltb n (10 ^ suc most) ≡ t → (more : ℕ) × (more ≤ suc most) × HasDigits more n
    go fewer true e =
        let f = fewer (ltb-true n (10 ^ suc most) e) in
        (f.0, omega (arith, f.1), f.2)
    go fewer false e = (suc most, omega arith, record { low = ltb-false n (10 ^ suc most) e; high = k })

count_is : (more n : ℕ) → more ≤ 4 → HasDigits more n → digit_count n ≡ suc more
unfolding digit_count
count_is zero n l h = rw (lt-ltb n 10 h.high)
count_is (suc zero) n l h = rw (le-ltb n 10 h.low, lt-ltb n 100 h.high)
count_is (suc (suc zero)) n l h = rw (le-ltb n 10 (omega arith), le-ltb n 100 h.low, lt-ltb n 1000 h.high)
count_is (suc (suc (suc zero))) n l h =
    rw (le-ltb n 10 (omega arith), le-ltb n 100 (omega arith), le-ltb n 1000 h.low, lt-ltb n 10000 h.high)
count_is (suc (suc (suc (suc zero)))) n l h =
    rw (le-ltb n 10 (omega arith), le-ltb n 100 (omega arith), le-ltb n 1000 (omega arith), le-ltb n 10000 h.low)
count_is (suc (suc (suc (suc (suc more))))) n l h = absurd (omega arith)

-- The first of its digits is not 0.
first_digit :
    (more n : ℕ) (rest : List ℕ) →
    HasDigits more n →
    let b : ℕ = next (written_digits (suc more) n ++ rest) in
    (49 ≤ b) × (b ≤ 57)
unfolding written_digits
first_digit zero n rest h = omega arith
first_digit (suc more) n rest h =
    let low : 10 ^ more * 10 ≤ n = rw pow-suc at h.low in
    let high : n < 10 ^ suc more * 10 = rw pow-suc at h.high in
    rw (append_assoc (written_digits (suc more) (n / 10)) ((48 + n % 10) ∷ []) rest)
    (first_digit more (n / 10) ((48 + n % 10) ∷ rest) (record { low = omega arith; high = omega arith }))

number_digits : (bytes : List ℕ) → 49 ≤ next bytes → next bytes ≤ 57 → number bytes ≡ digits 5 0 bytes
unfolding number digits
number_digits bytes low high =
    rw (
      ne_eqb (next bytes) 48 (λ e. omega arith),
      le-leb 48 (next bytes) (omega arith),
      le-leb (next bytes) 57 high,
      zero-add,
    )

written_zero : written_number 0 ≡ 48 ∷ []
unfolding written_number digit_count written_digits
written_zero = refl

pub written_number_lem :
    (n : ℕ) (rest : List ℕ) → n ≤ 99999 → is_digit (next rest) ≡ false → number (written_number n ++ rest) ≡ found n rest
unfolding written_number
written_number_lem zero rest h e = rw written_zero (unfold number in refl)
written_number_lem (suc m) rest h e =
    let sized = has_digits 4 (suc m) (omega arith) (omega arith) in
    let more : ℕ = sized.0 in
    let digit = first_digit more (suc m) rest sized.2 in
    let five : 5 ≡ suc more + (4 - more) = omega (arith, sized.1) in
    rw (count_is more (suc m) sized.1 sized.2)
    (number_digits (written_digits (suc more) (suc m) ++ rest) digit.0 digit.1
    ∙ rw five (written_digits_lem (suc more) (4 - more) 0 (suc m) rest sized.2.high)
    ∙ no_more_digits (4 - more) (0 * 10 ^ suc more + suc m) rest e
    ∙ ap (λ n. found n rest) (omega arith))

pub number_read : (bytes : List ℕ) (n : ℕ) (rest : List ℕ) → number bytes ≡ found n rest → bytes ≡ written_number n ++ rest
unfolding number written_number written_digits
number_read [] n rest e = cc
number_read (b ∷ bytes) n rest e = go (eqb b 48) (leb 48 b) (leb b 57) refl refl refl e
  where
    sized : (size : ℕ) → size ≤ 5 → n < 10 ^ size → 10 ^ size ≤ n * 10 → digit_count n ≡ size
    sized zero l high low = absurd (omega arith)
    sized (suc more) l high low =
        let low' : 10 ^ more * 10 ≤ n * 10 = rw pow-suc at low in
        count_is more n (omega arith) (record { low = omega arith; high = high })

    go :
        (nought low high : Bool) → eqb b 48 ≡ nought → leb 48 b ≡ low → leb b 57 ≡ high →
        (if nought then found 0 bytes else if low && high then digits 4 (b - 48) bytes else nothing) ≡ found n rest →
        b ∷ bytes ≡ written_number n ++ rest
    go true low high o p q f =
        let is0 : 0 ≡ n = cc in
        let is48 : b ≡ 48 = eqb-true b 48 o in
        rw (← is0, written_zero) (cc)
    go false true true o p q f =
        let low = leb-true 48 b p in
        let high = leb-true b 57 q in
        let not0 = eqb-false b 48 o in
        let r = digits_read 4 1 (b - 48) bytes n rest f in
        let first : 48 + (b - 48) % 10 ≡ b = omega arith in
        rw (sized r.size r.within (r.high (omega arith)) (r.low (omega arith)))
        (rw first at r.were)
    go false true false o p q f = cc
    go false false high o p q f = cc
