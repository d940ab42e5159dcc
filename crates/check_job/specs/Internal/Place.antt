-- Where an offset lies, as an editor counts lines.
use Rattle.std.specs.Prelude.{ℕ, ◌+◌, List, ◌==◌, count_by, take}
use Rattle.job_line.specs.Bytes.{newline}

abbrev pub newlines : List ℕ → ℕ
newlines = count_by (λ b. b == newline)

-- One more than the newlines before the offset.
abbrev pub line_number : List ℕ → ℕ → ℕ
line_number file offset = 1 + newlines (take offset file)
