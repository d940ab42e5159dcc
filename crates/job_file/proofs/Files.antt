-- The parts of a file that were found and read: how each ended decides what the file says.
--     glasses_refused, panes_refused    the first cause against one of them
--     both_read, rules_read             none: their entries, which keep the rules
use Prim.Native.Nat.{ℕ}
use mathlib.Core.Path.{◌≡◌}
use mathlib.Core.List.{List}
use Rattle.std.specs.Prelude.{Ok, Err}
use Rattle.causes.specs.declared.Refusal.{Refusal}
use Rattle.job_part.specs.Part.{whole, part_lines}
use Rattle.job_part.specs.Internal.Entries.{PartRead}
use Rattle.job_part.proofs.Ends.{part_stopped, part_whole}
use Rattle.job_part.proofs.Laws.{part_rules}
use Rattle.job_glass.specs.GlassLine.{glass_form}
use Rattle.job_glass.specs.declared.Glass.{Glass}
use Rattle.job_pane.specs.PaneLine.{pane_form}
use Rattle.job_pane.specs.declared.Pane.{Pane}
use Rattle.job_file.specs.File.{part, accepted, refused, parts_outcome, outcome_of}
use Rattle.job_file.specs.Rules.{Rules}
use Rattle.job_file.specs.Internal.Steps.{PartsOf}
use Rattle.job_file.specs.declared.parts.Parts.{Parts}

module _ (file : List ℕ) (at : Parts) (found : PartsOf file at) (gs : List Glass) where
  pub glasses_refused :
      (r : Refusal) → PartRead glass_form at.pane (part file at.glass at.pane) gs (Err r) →
      refused r.cause r.offset ≡ outcome_of file
  unfolding parts_outcome
  glasses_refused r read = rw (part_stopped glass_form at.pane _ gs r read, parts_outcome) at found.say

  module _ (glasses : PartRead glass_form at.pane (part file at.glass at.pane) gs (Ok tt)) (ps : List Pane) where
    first : part_lines glass_form at.pane (part file at.glass at.pane) ≡ whole gs
    first = part_whole glass_form at.pane _ gs glasses

    pub panes_refused :
        (r : Refusal) → PartRead pane_form at.end (part file at.pane at.end) ps (Err r) →
        refused r.cause r.offset ≡ outcome_of file
    unfolding parts_outcome
    panes_refused r read = rw (first, part_stopped pane_form at.end _ ps r read, parts_outcome) at found.say

    module _ (panes : PartRead pane_form at.end (part file at.pane at.end) ps (Ok tt)) where
      second : part_lines pane_form at.end (part file at.pane at.end) ≡ whole ps
      second = part_whole pane_form at.end _ ps panes

      pub both_read : accepted gs ps ≡ outcome_of file
      unfolding parts_outcome
      both_read = rw (first, second, parts_outcome) at found.say

      pub rules_read : Rules gs ps
      rules_read = record {
        of_glasses = part_rules glass_form at.pane _ gs first;
        of_panes = part_rules pane_form at.end _ ps second;
      }
