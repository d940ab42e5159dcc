-- The pressures of a pane's wind, down and up, in units of 0.01 kPa: as its line states them, or those of the class
-- and the zone that its line states (documents 01 and 02, "The job file"). Clause 4 reads a pane's wind by this definition alone.
use Rattle.job_pane.specs.declared.Wind.{Wind}
use Rattle.job_pane.specs.declared.Wind.TheVariants.{ByPressure, ByClass}
use Rattle.wind_classes.specs.ClassPressures.{class_pressures}
use Rattle.wind_classes.specs.declared.Pressures.{Pressures}

abbrev pub pressures_of : Wind → Pressures
pressures_of (ByPressure down up) = record { down = down; up = up }
pressures_of (ByClass class zone) = class_pressures class zone
