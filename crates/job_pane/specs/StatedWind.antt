-- Documents 01 and 02, "The job file": the wind that a pane line states with its last two numbers.
use Rattle.std.specs.Prelude.{ℕ, Bool, ◌&&◌, leb, eqb, if◌then◌else◌}
use Rattle.job_line.specs.Bytes.{letter_q}
use Rattle.job_part.specs.Part.{between}
use Rattle.job_pane.specs.declared.Wind.{Wind}
use Rattle.job_pane.specs.declared.Wind.TheVariants.{ByPressure, ByClass}

-- What the two numbers are, by the line's letter: a class and a zone on a `Q` line, pressures down and up on a `P` line.
abbrev pub wind_of : (letter first second : ℕ) → Wind
wind_of letter first second = if eqb letter letter_q then ByClass first second else ByPressure first second

-- Their allowed values. Pressures are in units of 0.01 kPa. The classes 1 to 10 are N1 to N6 and C1 to C4.
abbrev pub allowed_wind : Wind → Bool
allowed_wind (ByPressure down up) = leb down 1000 && leb up 1000
allowed_wind (ByClass class zone) = between 1 10 class && between 1 2 zone
