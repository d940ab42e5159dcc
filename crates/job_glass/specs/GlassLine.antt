-- Document 01, "The job file": the line of a glass, `G id kind thick w h two four stock`.
use Rattle.std.specs.Prelude.{ℕ, Bool, ◌&&◌, ◌||◌, List, leb, eqb, get_or}
use Rattle.job_line.specs.Bytes.{letter_g}
use Rattle.job_line.specs.Line.{only}
use Rattle.job_part.specs.Part.{Form, between}
use Rattle.job_glass.specs.declared.Glass.{Glass}

-- What the numbers of a line are, in the line's order.
abbrev pub glass_of : List ℕ → Glass
glass_of ns = record {
  id = get_or ns 0 0;
  kind = get_or ns 1 0;
  thick = get_or ns 2 0;
  w = get_or ns 3 0;
  h = get_or ns 4 0;
  two = get_or ns 5 0;
  four = get_or ns 6 0;
  stock = get_or ns 7 0;
}

-- The allowed values, number by number. Sides and thickness are in mm, the constants `two` and `four` in tenths of k1, and the
-- stock in sheets.
abbrev pub allowed_glass : Glass → Bool
allowed_glass g =
    between 1 9999 g.id
    && between 1 4 g.kind
    && (eqb g.thick 6 || eqb g.thick 8 || eqb g.thick 10 || eqb g.thick 12)
    && between 1 9999 g.w
    && between 1 9999 g.h
    && between 1 99999 g.two
    && between 1 99999 g.four
    && leb g.stock 999

-- A glass line has the letter `G` and 8 numbers, and there are at most 64.
abbrev pub glass_form : Form Glass
glass_form = record {
  takes = only letter_g;
  count = 8;
  entry = λ letter. glass_of;
  id = λ g. g.id;
  allowed = allowed_glass;
  most = 64;
}

-- What stands where there is no glass: zeros.
abbrev pub blank_glass : Glass
blank_glass = record { id = 0; kind = 0; thick = 0; w = 0; h = 0; two = 0; four = 0; stock = 0 }
