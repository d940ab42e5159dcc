-- The grammar of the job file: the bytes that are written for a line, for a glass or a pane, for a part and for a file.
-- Documents 01 and 02, "The job file", from the writer's side.
use Rattle.std.specs.Prelude.{ℕ, ◌+◌, List, [], ◌∷◌, ◌++◌, length}
use Rattle.job_line.specs.Bytes.{newline, space, letter_g, letter_p, letter_q, letter_t}
use Rattle.job_line.specs.WrittenNumber.{written_digits, written_numbers}
use Rattle.job_glass.specs.declared.Glass.{Glass}
use Rattle.job_pane.specs.declared.Pane.{Pane}
use Rattle.job_pane.specs.declared.Wind.{Wind}
use Rattle.job_pane.specs.declared.Wind.TheVariants.{ByPressure, ByClass}

-- A line, from its letter to its newline.
unfoldable pub written_line : ℕ → List ℕ → List ℕ
written_line letter ns = letter ∷ written_numbers ns ++ (newline ∷ [])

-- The numbers of a glass, in the order of its line.
abbrev pub glass_numbers : Glass → List ℕ
glass_numbers g = g.id ∷ g.kind ∷ g.thick ∷ g.w ∷ g.h ∷ g.two ∷ g.four ∷ g.stock ∷ []

unfoldable pub written_glass : Glass → List ℕ
written_glass g = written_line letter_g (glass_numbers g)

-- The letter that says how a line states its wind, and the two numbers that do.
abbrev pub wind_letter : Wind → ℕ
wind_letter (ByPressure down up) = letter_p
wind_letter (ByClass class zone) = letter_q

abbrev pub wind_numbers : Wind → List ℕ
wind_numbers (ByPressure down up) = down ∷ up ∷ []
wind_numbers (ByClass class zone) = class ∷ zone ∷ []

-- The numbers of a pane.
abbrev pub pane_numbers : Pane → List ℕ
pane_numbers p = p.id ∷ p.edges ∷ p.angle ∷ p.awning ∷ p.top ∷ p.w ∷ p.h ∷ wind_numbers p.wind

unfoldable pub written_pane : Pane → List ℕ
written_pane p = written_line (wind_letter p.wind) (pane_numbers p)

-- A part: line after line.
unfoldable pub written_part : {A : Type 0} → (A → List ℕ) → List A → List ℕ
written_part written [] = []
written_part written (x ∷ xs) = written x ++ written_part written xs

-- The trailer, with five digits for each offset.
unfoldable pub written_trailer : ℕ → ℕ → List ℕ
written_trailer glass pane =
    letter_t ∷ space ∷ written_digits 5 glass ++ (space ∷ written_digits 5 pane ++ (newline ∷ []))

-- Notes, the two parts, and a trailer that says where each part begins.
unfoldable pub written_file : List ℕ → List Glass → List Pane → List ℕ
written_file notes glasses panes =
    let glass_part : List ℕ = written_part written_glass glasses in
    let pane_part : List ℕ = written_part written_pane panes in
    notes ++ (glass_part ++ (pane_part ++ written_trailer (length notes) (length notes + length glass_part)))
