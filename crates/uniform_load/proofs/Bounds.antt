-- No pressure of a wind is above 10 kPa, for a pane of an accepted file.
use Prim.Native.Nat.{◌≤◌}
use Rattle.basics.proofs.Tests.{and_iff, leb_iff}
use Rattle.job_pane.specs.Internal.Values.{WindValues}
use Rattle.job_pane.specs.declared.Wind.{Wind}
use Rattle.job_pane.specs.declared.Wind.TheVariants.{ByPressure, ByClass}
use Rattle.wind_classes.proofs.TableLaws.{table_laws}
use Rattle.uniform_load.specs.Wind.{pressures_of}

pub pressures_high : (wind : Wind) → WindValues wind → ((pressures_of wind).down ≤ 1000) × ((pressures_of wind).up ≤ 1000)
pressures_high (ByPressure down up) values = values
pressures_high (ByClass class zone) values =
    let most = table_laws.at_most class zone (simp (and_iff, leb_iff) (values.0, values.1)) in
    (most.down, most.up)
