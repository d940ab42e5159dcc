-- What the reader's steps promise: what each gives, as the value of a definition.
use Rattle.std.specs.Prelude.{ℕ, ◌≡◌, ◌≤◌, List, length, get_or, Option, Some, None, Result, MatchResult, if◌then◌else◌}
use Rattle.causes.specs.declared.Refusal.{Refusal}
use Rattle.job_file.specs.File.{Trailer, offsets, no_trailer, are_digits, five_digits, refused, parts_outcome, outcome_of}
use Rattle.job_file.specs.declared.parts.Parts.{Parts}

-- The offsets of a trailer, or none.
abbrev pub as_trailer : Option (ℕ × ℕ) → Trailer
as_trailer (Some from) = offsets from.0 from.1
as_trailer None = no_trailer

-- The number that five bytes make, where all of them are digits.
abbrev pub as_digits : List ℕ → Option ℕ
as_digits bytes =
    let byte : ℕ → ℕ = λ k. get_or bytes k 0 in
    if are_digits (byte 0) (byte 1) (byte 2) (byte 3) (byte 4)
    then Some (five_digits (byte 0) (byte 1) (byte 2) (byte 3) (byte 4))
    else None

-- Parts that stand one behind the other within the file, and say what the file says.
pub record PartsOf (file : List ℕ) (at : Parts) : Type 0 where
  pub in_order : at.glass ≤ at.pane
  pub before_trailer : at.pane ≤ at.end
  pub within : at.end ≤ length file
  pub say : parts_outcome file at.glass at.pane at.end ≡ outcome_of file

-- The parts of a file were found, or the file is refused.
abbrev pub PartsFound : List ℕ → Result Parts Refusal → Type 0
PartsFound file result = MatchResult result (PartsOf file) (λ r. refused r.cause r.offset ≡ outcome_of file)
