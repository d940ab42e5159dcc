-- What is wrong with the wind that a `Q` line states: its class, or else its zone.
use Rattle.std.specs.Prelude.{ℕ, List, Option, Some, None, get_or, if◌then◌else◌}
use Rattle.job_line.specs.Bytes.{Found, found, nothing}
use Rattle.job_pane.specs.StatedWind.{allowed_wind}
use Rattle.job_pane.specs.declared.Wind.TheVariants.{ByClass}
use Rattle.check_job.specs.declared.wind.WindFault.{WindFault}
use Rattle.check_job.specs.declared.wind.WindFault.TheVariants.{NoClass, NoZone}

-- The class is at fault where the wind is not allowed in zone 1 either, which every class has; else the zone is.
abbrev pub fault_of : (class zone : ℕ) → Option WindFault
fault_of class zone =
    if allowed_wind (ByClass class zone) then None
    else if allowed_wind (ByClass class 1) then Some NoZone
    else Some NoClass

-- By what was found of the line: its last two of nine numbers are the class and the zone.
abbrev pub line_fault : Found (List ℕ) → Option WindFault
line_fault (found ns rest) = fault_of (get_or ns 7 0) (get_or ns 8 0)
line_fault nothing = None
