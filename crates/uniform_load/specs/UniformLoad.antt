-- Documents 01 and 02, "The four clauses", clause 4, uniform load (AS 1288, 6.5.5). Pressures are in units of 0.01 kPa.
use Rattle.std.specs.Prelude.{ℕ, ◌+◌, ◌-◌, ◌*◌, max, Bool, ltb, eqb, if◌then◌else◌}
use Rattle.job_glass.specs.declared.Glass.{Glass}
use Rattle.job_pane.specs.declared.Pane.{Pane}
use Rattle.dead_loads.specs.DeadLoads.{maximum_at, minimum_at}
use Rattle.wind_classes.specs.declared.Pressures.{Pressures}
use Rattle.point_load.specs.Support.{span_of}
use Rattle.uniform_load.specs.GlassLoads.{max_dead_load, min_dead_load}
use Rattle.uniform_load.specs.Wind.{pressures_of}

-- What governs: the maximum dead load with the wind on it, or the wind from below less the minimum. `-` gives 0 where a difference
-- would be negative.
abbrev pub governing : (maximum minimum : ℕ) → Pressures → ℕ
governing maximum minimum pressures = max (maximum + pressures.down) (pressures.up - minimum)

-- P, from the dead loads of the glass at the pane's angle and the wind on the pane.
abbrev pub design_pressure : Pane → Glass → ℕ
design_pressure p g =
    governing (max_dead_load (maximum_at p.angle) g) (min_dead_load (minimum_at p.angle) g) (pressures_of p.wind)

-- K, in tenths of k1.
abbrev pub span_constant : ℕ → Glass → ℕ
span_constant edges g = if eqb edges 2 then g.two else g.four

-- The clause fails where B > (K/10) / √(P/100), which is K / √P: squared, so that all numbers are whole. It is said of any P.
abbrev pub fails_under : (P : ℕ) → Pane → Glass → Bool
fails_under P p g =
    let B : ℕ = span_of p in
    let K : ℕ = span_constant p.edges g in
    ltb (K * K) (B * B * P)

-- The clause is by the design pressure.
abbrev pub uniform_load_fails : Pane → Glass → Bool
uniform_load_fails p g = fails_under (design_pressure p g) p g
