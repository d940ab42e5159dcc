-- What was accepted before document 02, 2026-01, when ribbons were refused: it is accepted, and reads as the same panes. Of a file only the
-- pane part was asked for ribbons, so it is stated of that part.
use Rattle.std.specs.Prelude.{ℕ, ◌≡◌, ◌&&◌, not, List}
use Rattle.job_part.specs.Part.{Form, whole, part_lines}
use Rattle.job_part.specs.Rules.{Every}
use Rattle.job_pane.specs.PaneLine.{pane_form}
use Rattle.job_pane.specs.Ribbon.{is_ribbon}
use Rattle.job_pane.specs.declared.Pane.{Pane}

-- The form of a pane line that takes no ribbon.
abbrev pub form_before : Form Pane
form_before = record {
  takes = pane_form.takes;
  count = pane_form.count;
  entry = pane_form.entry;
  id = pane_form.id;
  allowed = λ p. pane_form.allowed p && not (is_ribbon p);
  most = pane_form.most;
}

-- Of the bytes of a part that was whole, with these panes.
pub record ReadAsBefore (end : ℕ) (bytes : List ℕ) (panes : List Pane) : Type 0 where
  pub read_as_before : part_lines form_before end bytes ≡ whole panes → part_lines pane_form end bytes ≡ whole panes
  pub no_ribbon : part_lines form_before end bytes ≡ whole panes → Every (λ p. not (is_ribbon p)) panes
