-- Clause 4 of a pane with four edges goes by "four".
--     by_four    as specs/FourEdges.antt states it
use Rattle.job_pane.specs.declared.Pane.{Pane}
use Rattle.uniform_load.specs.FourEdges.{ByFour}

pub by_four : (p : Pane) → ByFour p
by_four p four_edges g = rw four_edges
