-- Document 01, "The job file", first paragraph, and "What each cause gives", rows 1 to 3: the whole file, as a list of bytes.
use Rattle.std.specs.Prelude.{ℕ, ◌+◌, ◌-◌, ◌*◌, Bool, ◌&&◌, ◌||◌, List, leb, ltb, eqb, length, get_or, take, drop, if◌then◌else◌}
use Rattle.causes.specs.declared.Cause.{Cause}
use Rattle.causes.specs.declared.Cause.TheVariants.{FileLength, NoTrailer, PartOffsets}
use Rattle.job_line.specs.Bytes.{newline, space, digit0, letter_t}
use Rattle.job_line.specs.Number.{is_digit}
use Rattle.job_part.specs.Part.{whole, stopped, part_lines}
use Rattle.job_glass.specs.GlassLine.{glass_form}
use Rattle.job_pane.specs.PaneLine.{pane_form}
use Rattle.job_glass.specs.declared.Glass.{Glass}
use Rattle.job_pane.specs.declared.Pane.{Pane}

-- The two offsets of a trailer, or no trailer.
pub data Trailer : Type 0 where
  offsets : (glass_from pane_from : ℕ) → Trailer
  no_trailer : Trailer

-- Whether five bytes are digits, any of which may be `0`.
abbrev pub are_digits : (a b c d e : ℕ) → Bool
are_digits a b c d e = is_digit a && is_digit b && is_digit c && is_digit d && is_digit e

-- The number that five digits make.
abbrev pub five_digits : (a b c d e : ℕ) → ℕ
five_digits a b c d e =
    (a - digit0) * 10000 + (b - digit0) * 1000 + (c - digit0) * 100 + (d - digit0) * 10 + (e - digit0)

-- A trailer, byte by byte: `T`, a space, five digits, a space, five digits, a newline. Any other bytes are none.
unfoldable pub trailer : List ℕ → Trailer
trailer bytes =
    let byte : ℕ → ℕ = λ k. get_or bytes k 0 in
    if eqb (length bytes) 14
    && eqb (byte 0) letter_t
    && eqb (byte 1) space
    && are_digits (byte 2) (byte 3) (byte 4) (byte 5) (byte 6)
    && eqb (byte 7) space
    && are_digits (byte 8) (byte 9) (byte 10) (byte 11) (byte 12)
    && eqb (byte 13) newline
    then offsets (five_digits (byte 2) (byte 3) (byte 4) (byte 5) (byte 6)) (five_digits (byte 8) (byte 9) (byte 10) (byte 11) (byte 12))
    else no_trailer

-- What a file says: its glasses and panes in file order, or the first cause against it and the offset.
pub data Outcome : Type 0 where
  accepted : List Glass → List Pane → Outcome
  refused : Cause → ℕ → Outcome

-- The bytes of a file from one offset to another.
abbrev pub part : (file : List ℕ) (from to : ℕ) → List ℕ
part file from to = take (to - from) (drop from file)

-- The glass part, then the pane part, by where each and the trailer begin.
unfoldable pub parts_outcome : (file : List ℕ) (glass_from pane_from trailer_from : ℕ) → Outcome
parts_outcome file glass_from pane_from trailer_from =
    elim (part_lines glass_form pane_from (part file glass_from pane_from)) [
      | whole glasses ↦
          elim (part_lines pane_form trailer_from (part file pane_from trailer_from)) [
            | whole panes ↦ accepted glasses panes
            | stopped cause offset ↦ refused cause offset
          ]
      | stopped cause offset ↦ refused cause offset
    ]

-- Causes 1, 2 and 3, in this order; then the lines. What stands before the glass part is in no part, so it is not read.
unfoldable pub outcome_of : List ℕ → Outcome
outcome_of file =
    let trailer_from : ℕ = length file - 14 in
    if ltb (length file) 14 || ltb 65535 (length file) then refused FileLength 0
    else elim (trailer (drop trailer_from file)) [
      | offsets glass_from pane_from ↦
          if leb glass_from pane_from && leb pane_from trailer_from
          then parts_outcome file glass_from pane_from trailer_from
          else refused PartOffsets trailer_from
      | no_trailer ↦ refused NoTrailer trailer_from
    ]
