-- Documents 01 and 02, "The program `canopy`": the text that it prints. Bytes are ASCII.
use Rattle.std.specs.Prelude.{ℕ, zero, suc, List, [], ◌∷◌, ◌++◌, eqb, get_or, if◌then◌else◌}
use Rattle.job_line.specs.Bytes.{newline, bytes_of}
use Rattle.job_line.specs.WrittenNumber.{written_number, written_numbers}

-- A line: its first field, and then numbers, a space before each.
abbrev pub text_line : (first numbers : List ℕ) → List ℕ
text_line first numbers = first ++ (written_numbers numbers ++ (newline ∷ []))

-- A line of two numbers.
abbrev pub pair_line : ℕ → ℕ → List ℕ
pair_line a b = text_line (written_number a) (b ∷ [])

-- A pane's line has its id and that of its glass, or 0 where it has none: the lines of the first n panes.
unfoldable pub pane_lines : (pane_ids answers : List ℕ) (n : ℕ) → List ℕ
pane_lines pane_ids answers zero = []
pane_lines pane_ids answers (suc n) = pane_lines pane_ids answers n ++ pair_line (get_or pane_ids n 0) (get_or answers n 0)

-- The last line, where not every pane is placed.
abbrev pub short_line : (wanted placed : ℕ) (group : List ℕ) → List ℕ
short_line wanted placed group = if eqb placed wanted then [] else text_line (bytes_of "short") group

-- The text of a placing: a line for each pane, the line of the two counts, and the last line.
unfoldable pub placing_text : (pane_ids answers : List ℕ) (wanted placed : ℕ) (group : List ℕ) → List ℕ
placing_text pane_ids answers wanted placed group =
    pane_lines pane_ids answers wanted ++ (pair_line placed wanted ++ short_line wanted placed group)

-- The text of a refusal, one line.
unfoldable pub refusal_text : (number offset : ℕ) → List ℕ
refusal_text number offset = text_line (bytes_of "refused") (number ∷ offset ∷ [])
