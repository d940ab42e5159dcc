-- What reading at the front of some bytes answers, as a `Found` of the definitions.
use Rattle.std.specs.Prelude.{ℕ, ◌-◌, List, Option, Some, None, if◌then◌else◌}
use Rattle.std.specs.Borrow.{Bor}
use Rattle.job_line.specs.Bytes.{digit0, next, behind, Found, found, nothing}
use Rattle.job_line.specs.Number.{is_digit}

-- What was found there and the bytes after it, or nothing.
abbrev pub as_found : {A : Type 0} → Option (A × Bor (List ℕ)) → Found A
as_found (Some r) = found r.0 r.1.now
as_found None = nothing

-- A digit, and the bytes after it.
abbrev pub digit : List ℕ → Found ℕ
digit bytes = if is_digit (next bytes) then found (next bytes - digit0) (behind bytes) else nothing
