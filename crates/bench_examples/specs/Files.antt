-- Documents 01 and 02, "Bench examples": the files of those that speak of a file.
use Rattle.std.specs.Prelude.{ℕ, List, ◌++◌}
use Rattle.job_line.specs.Bytes.{bytes_of}
use Rattle.job_glass.specs.declared.Glass.{Glass}
use Rattle.job_pane.specs.declared.Pane.{Pane}
use Rattle.job_pane.specs.declared.Wind.TheVariants.{ByPressure}

-- (c) One pane of four edges, with the trailer at its end.
abbrev pub pane3000 : List ℕ
pane3000 = bytes_of "P 1 4 30 0 3000 1000 3000 60 95\n" ++ bytes_of "T 00000 00000\n"

-- The pane 1 mm longer, a ribbon, with a rack of heat-strengthened glass of 8 and of 10 mm. Of both the constant "two" is too small.
abbrev pub pane3001 : List ℕ
pane3001 =
    bytes_of "G 8 2 8 2400 3600 1 20000 1\n"
    ++ bytes_of "G 10 2 10 2400 3600 1 20000 1\n"
    ++ bytes_of "P 1 4 30 0 3000 1000 3001 60 95\n"
    ++ bytes_of "T 00000 00058\n"

-- What the two files say.
abbrev pub pane_c : (h : ℕ) → Pane
pane_c h = record { id = 1; edges = 4; angle = 30; awning = 0; top = 3000; w = 1000; h = h; wind = ByPressure 60 95 }

abbrev pub glass8 : Glass
glass8 = record { id = 8; kind = 2; thick = 8; w = 2400; h = 3600; two = 1; four = 20000; stock = 1 }

abbrev pub glass10 : Glass
glass10 = record { id = 10; kind = 2; thick = 10; w = 2400; h = 3600; two = 1; four = 20000; stock = 1 }

-- (h) A trailer alone.
abbrev pub job_h : List ℕ
job_h = bytes_of "T 00000 00000\n"

-- (j) The job of "The program `canopy`".
abbrev pub job_j : List ℕ
job_j =
    bytes_of "G 9 1 12 2400 3600 21304 23857 1\n"
    ++ bytes_of "G 7 1 10 2400 3600 17976 20130 1\n"
    ++ bytes_of "P 1 4 30 0 3000 900 1500 60 95\n"
    ++ bytes_of "P 2 4 10 0 3000 500 1000 60 95\n"
    ++ bytes_of "T 00000 00066\n"
