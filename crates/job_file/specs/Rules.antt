-- The rules that the lists of an accepted file keep: documents 01 and 02, "The job file", and "What each cause gives", rows 5, 6 and 8.
use Rattle.std.specs.Prelude.{List}
use Rattle.job_part.specs.Rules.{PartRules}
use Rattle.job_glass.specs.GlassLine.{glass_form}
use Rattle.job_pane.specs.PaneLine.{pane_form}
use Rattle.job_glass.specs.declared.Glass.{Glass}
use Rattle.job_pane.specs.declared.Pane.{Pane}

pub record Rules (glasses : List Glass) (panes : List Pane) : Type 0 where
  pub of_glasses : PartRules glass_form glasses
  pub of_panes : PartRules pane_form panes
