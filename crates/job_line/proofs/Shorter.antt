-- What is behind what was read is no longer than what it was read from.
--     line_shorter    behind a line
use Prim.Native.Nat.{ℕ, zero, suc, ◌+◌, ◌-◌, ◌*◌, ◌≤◌}
use mathlib.Core.Path.{◌≡◌, subst}
use mathlib.Core.Bool.{Bool, true, false}
use mathlib.Core.List.{List, [], ◌∷◌, ◌++◌}
use native.Mathlib.Omega.{arith}
use lib.Dec.{eqb}
use lib.ListN.{length}
use Rattle.std.specs.Prelude.{if◌then◌else◌}
use Rattle.job_line.specs.Bytes.{next, behind, Found, found, nothing}
use Rattle.job_line.specs.Number.{is_digit, digits, number}
use Rattle.job_line.specs.Line.{numbers, ended, line}

-- What was found leaves no more than so many bytes.
abbrev Within : {A : Type 0} → ℕ → Found A → Type 0
Within n (found x rest) = length rest ≤ n
Within n nothing = Unit {0}

behind_shorter : (bytes : List ℕ) → length (behind bytes) ≤ length bytes
behind_shorter [] = omega arith
behind_shorter (b ∷ bytes) = omega arith

if_within : {A : Type 0} (n : ℕ) (t : Bool) (f g : Found A) → Within n f → Within n g → Within n (if t then f else g)
if_within n true f g h k = h
if_within n false f g h k = k

digits_within : (n left v : ℕ) (bytes : List ℕ) → length bytes ≤ n → Within n (digits left v bytes)
unfolding digits
digits_within n zero v bytes l = l
digits_within n (suc left) v bytes l =
    let shorter = behind_shorter bytes in
    if_within n (is_digit (next bytes)) (digits left (v * 10 + (next bytes - 48)) (behind bytes)) (found v bytes)
    (digits_within n left _ (behind bytes) (omega arith)) l

number_within : (n : ℕ) (bytes : List ℕ) → length bytes ≤ n → Within n (number bytes)
unfolding number
number_within n bytes l =
    let shorter = behind_shorter bytes in
    if_within n (eqb (next bytes) 48) _ _ (omega arith)
    (if_within n (is_digit (next bytes)) _ nothing (digits_within n 4 _ (behind bytes) (omega arith)) tt)

numbers_within : (n left : ℕ) (before bytes : List ℕ) → length bytes ≤ n → Within n (numbers left before bytes)
unfolding numbers
numbers_within n zero before bytes l = l
numbers_within n (suc left) before bytes l =
    let shorter = behind_shorter bytes in
    if_within n (eqb (next bytes) 32) _ nothing
    (go (λ v rest. numbers_within n left (before ++ (v ∷ [])) rest) (number (behind bytes)) (number_within n (behind bytes) (omega arith))) tt
  where
    go :
        ((v : ℕ) (rest : List ℕ) → length rest ≤ n → Within n (numbers left (before ++ (v ∷ [])) rest)) →
        (f : Found ℕ) → Within n f →
        Within n (elim f [ found v rest ↦ numbers left (before ++ (v ∷ [])) rest | nothing ↦ nothing ])
    go more (found v rest) h = more v rest h
    go more nothing h = tt

ended_within : (n : ℕ) (f : Found (List ℕ)) → Within n f → Within n (ended f)
unfolding ended
ended_within n (found ns bytes) h =
    let shorter = behind_shorter bytes in
    if_within n (eqb (next bytes) 10) _ nothing (omega arith) tt
ended_within n nothing h = tt

pub line_shorter :
    (takes : ℕ → Bool) (count : ℕ) (bytes ns rest : List ℕ) → line takes count bytes ≡ found ns rest → length rest ≤ length bytes
unfolding line
line_shorter takes count bytes ns rest e =
    let shorter = behind_shorter bytes in
    let within = if_within (length bytes) (takes (next bytes)) _ nothing (ended_within (length bytes) _ (numbers_within (length bytes) count [] (behind bytes) shorter)) tt in
    subst (Within (length bytes)) e within
