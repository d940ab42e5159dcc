-- Documents 01 and 02, "The job file": the line of a pane, `P id edges angle awning top w h down up` or
-- `Q id edges angle awning top w h class zone`.
use Rattle.std.specs.Prelude.{ℕ, Bool, ◌&&◌, ◌||◌, List, leb, eqb, get_or}
use Rattle.job_line.specs.Bytes.{letter_p, letter_q}
use Rattle.job_part.specs.Part.{Form, between}
use Rattle.job_pane.specs.StatedWind.{wind_of, allowed_wind}
use Rattle.job_pane.specs.declared.Pane.{Pane}
use Rattle.job_pane.specs.declared.Wind.TheVariants.{ByPressure}

-- The letters of pane lines.
abbrev pub takes_pane : (letter : ℕ) → Bool
takes_pane letter = eqb letter letter_p || eqb letter letter_q

-- What the numbers of a line of this letter are, in the line's order.
abbrev pub pane_of : (letter : ℕ) (numbers : List ℕ) → Pane
pane_of letter ns = record {
  id = get_or ns 0 0;
  edges = get_or ns 1 0;
  angle = get_or ns 2 0;
  awning = get_or ns 3 0;
  top = get_or ns 4 0;
  w = get_or ns 5 0;
  h = get_or ns 6 0;
  wind = wind_of letter (get_or ns 7 0) (get_or ns 8 0);
}

-- The allowed values, number by number. The angle is in degrees, and lengths are in mm.
abbrev pub allowed_pane : Pane → Bool
allowed_pane p =
    between 1 9999 p.id
    && (eqb p.edges 2 || eqb p.edges 4)
    && leb p.angle 74
    && leb p.awning 1
    && leb p.top 99999
    && between 1 5000 p.w
    && between 1 5000 p.h
    && allowed_wind p.wind

-- A pane line has the letter `P` or `Q` and 9 numbers, and there are at most 256.
abbrev pub pane_form : Form Pane
pane_form = record {
  takes = takes_pane;
  count = 9;
  entry = pane_of;
  id = λ p. p.id;
  allowed = allowed_pane;
  most = 256;
}

-- What stands where there is no pane: zeros.
abbrev pub blank_pane : Pane
blank_pane = record { id = 0; edges = 0; angle = 0; awning = 0; top = 0; w = 0; h = 0; wind = ByPressure 0 0 }
