-- Document 01, "The job file": a line, from its letter to its newline, with as many numbers as its form has.
use Rattle.std.specs.Prelude.{ℕ, zero, suc, Bool, List, [], ◌∷◌, ◌++◌, eqb, if◌then◌else◌}
use Rattle.job_line.specs.Bytes.{newline, space, next, behind, Found, found, nothing}
use Rattle.job_line.specs.Number.{number}

-- The numbers of a line, one space before each. `before` are those already read, and `left` is how many are still to come.
unfoldable pub numbers : (left : ℕ) (before bytes : List ℕ) → Found (List ℕ)
numbers zero before bytes = found before bytes
numbers (suc left) before bytes =
    if eqb (next bytes) space
    then elim (number (behind bytes)) [
      | found n rest ↦ numbers left (before ++ (n ∷ [])) rest
      | nothing ↦ nothing
    ]
    else nothing

-- The newline that ends a line, behind its numbers.
unfoldable pub ended : Found (List ℕ) → Found (List ℕ)
ended (found ns bytes) = if eqb (next bytes) newline then found ns (behind bytes) else nothing
ended nothing = nothing

-- A line of a letter that `takes` allows, and of `count` numbers: the numbers, and the bytes after the newline.
unfoldable pub line : (takes : ℕ → Bool) (count : ℕ) (bytes : List ℕ) → Found (List ℕ)
line takes count bytes = if takes (next bytes) then ended (numbers count [] (behind bytes)) else nothing

-- One letter and no other.
abbrev pub only : (letter : ℕ) → ℕ → Bool
only letter b = eqb b letter
