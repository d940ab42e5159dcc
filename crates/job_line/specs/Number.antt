-- Document 01, "The job file": a number of one to five digits, the first of which is not 0; or the digit 0 alone.
use Rattle.std.specs.Prelude.{ℕ, zero, suc, ◌+◌, ◌-◌, ◌*◌, Bool, ◌&&◌, List, leb, eqb, if◌then◌else◌}
use Rattle.job_line.specs.Bytes.{digit0, digit9, next, behind, Found, found, nothing}

abbrev pub is_digit : ℕ → Bool
is_digit b = leb digit0 b && leb b digit9

-- The number that digits make. `value` is what those already read make, and `left` is how many more may still come.
unfoldable pub digits : (left value : ℕ) (bytes : List ℕ) → Found ℕ
digits zero value bytes = found value bytes
digits (suc left) value bytes =
    if is_digit (next bytes)
    then digits left (value * 10 + (next bytes - digit0)) (behind bytes)
    else found value bytes

-- `0` itself, or a digit other than 0 and at most four more.
unfoldable pub number : List ℕ → Found ℕ
number bytes =
    if eqb (next bytes) digit0 then found 0 (behind bytes)
    else if is_digit (next bytes) then digits 4 (next bytes - digit0) (behind bytes)
    else nothing
