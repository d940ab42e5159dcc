-- A law of clause 4: of a pane with four edges, whatever its sides, K is "four".
use Rattle.std.specs.Prelude.{◌*◌, ◌≡◌, ltb}
use Rattle.job_glass.specs.declared.Glass.{Glass}
use Rattle.job_pane.specs.declared.Pane.{Pane}
use Rattle.point_load.specs.Support.{span_of}
use Rattle.uniform_load.specs.UniformLoad.{design_pressure, uniform_load_fails}

abbrev pub ByFour : Pane → Type 0
ByFour p =
    p.edges ≡ 4 → (g : Glass) → uniform_load_fails p g ≡ ltb (g.four * g.four) (span_of p * span_of p * design_pressure p g)
