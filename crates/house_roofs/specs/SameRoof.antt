-- A job whose `Q` lines are written as `P` lines with their pressures. It keeps the rules, and the same is to be placed: rows, placings,
-- full ones among them, and short groups are all said of a schedule, and the two schedules are one.
use Rattle.std.specs.Prelude.{ℕ, ◌≡◌, List, map}
use Rattle.job_glass.specs.declared.Glass.{Glass}
use Rattle.job_pane.specs.declared.Pane.{Pane}
use Rattle.job_file.specs.Rules.{Rules}
use Rattle.uniform_load.specs.AsPressures.{as_pressures}
use Rattle.placing.specs.FileSchedule.{schedule_of}

pub record SameRoof (glasses : List Glass) (panes : List Pane) : Type 0 where
  pub rules_kept : Rules glasses panes → Rules glasses (map as_pressures panes)
  pub to_place : (sheets : List ℕ) → schedule_of glasses sheets (map as_pressures panes) ≡ schedule_of glasses sheets panes
