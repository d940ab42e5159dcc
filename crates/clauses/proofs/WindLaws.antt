-- The laws of the verdict by wind hold: clause 4 reads the pressures of the wind, which are the same, and no other clause reads a wind.
--     wind_laws    as specs/WindLaws.antt states them
use mathlib.Core.Path.{refl}
use Rattle.job_glass.specs.declared.Glass.{Glass}
use Rattle.job_pane.specs.declared.Pane.{Pane}
use Rattle.point_load.specs.Support.{column_of}
use Rattle.clauses.specs.Verdict.{verdict_of}
use Rattle.clauses.specs.WindLaws.{WindLaws}

pub wind_laws : (p : Pane) (g : Glass) → WindLaws p g
unfolding verdict_of column_of
wind_laws p g = record { by_pressures = refl; by_class = λ class zone. refl }
