-- What was a whole pane part while ribbons were refused is one, with the same panes: a line that was taken is taken.
--     read_as_before    as specs/ReadAsBefore.antt states it
use Prim.Native.Nat.{ℕ, suc}
use mathlib.Core.Path.{◌≡◌, refl, sym, ◌∙◌}
use mathlib.Core.Bool.{Bool, true, false, not, ◌&&◌}
use mathlib.Core.List.{List, [], ◌∷◌, ◌++◌}
use lib.Dec.{T}
use Rattle.job_part.specs.Part.{whole, lines, part_lines}
use Rattle.job_part.specs.Rules.{Every}
use Rattle.job_part.proofs.Kept.{Taken, taken_is, keep}
use Rattle.job_part.proofs.Parts.{lines_end, lines_taken}
use Rattle.job_part.proofs.Laws.{part_rules}
use Rattle.job_pane.specs.PaneLine.{allowed_pane, pane_form}
use Rattle.job_pane.specs.Ribbon.{is_ribbon}
use Rattle.job_pane.specs.declared.Pane.{Pane}
use Rattle.job_grammar.specs.ReadAsBefore.{form_before, ReadAsBefore}

both : (a b : Bool) → T (a && b) → T a × T b
both true true h = (tt, tt)
both true false h = absurd h
both false b h = absurd h

-- A line that was taken is taken.
still_taken :
    (earlier : List Pane) (bytes : List ℕ) (x : Pane) (rest : List ℕ) →
    Taken form_before earlier bytes x rest → Taken pane_form earlier bytes x rest
still_taken earlier bytes x rest t = record {
  numbers = t.numbers;
  read = t.read;
  says = t.says;
  allowed = (both (allowed_pane x) (not (is_ribbon x)) t.allowed).0;
  new = t.new;
}

module _ (end : ℕ) (part : List ℕ) where
  -- What is still to be read reads as the whole part does.
  abbrev Rest : ℕ → List Pane → List ℕ → Type 0
  Rest left earlier bytes = lines pane_form end left earlier bytes ≡ part_lines pane_form end part

  step :
      (left : ℕ) (earlier : List Pane) (b : ℕ) (bytes : List ℕ) (x : Pane) (rest : List ℕ) →
      Rest (suc left) earlier (b ∷ bytes) → Taken form_before earlier (b ∷ bytes) x rest → Rest left (earlier ++ (x ∷ [])) rest
  step left earlier b bytes x rest r t =
      let taken = taken_is pane_form earlier (b ∷ bytes) x rest (still_taken earlier (b ∷ bytes) x rest t) in
      sym (lines_taken pane_form end earlier (b ∷ bytes) refl left x rest taken).0 ∙ r

  same_panes : (panes : List Pane) → part_lines form_before end part ≡ whole panes → part_lines pane_form end part ≡ whole panes
  unfolding part_lines
  same_panes panes e =
      let last = keep form_before Rest step end pane_form.most [] part panes e refl in
      sym last.1 ∙ (lines_end pane_form end last.0 panes).0

no_ribbons : (panes : List Pane) → Every form_before.allowed panes → Every (λ p. not (is_ribbon p)) panes
unfolding Every
no_ribbons [] h = tt
no_ribbons (p ∷ panes) h = ((both (allowed_pane p) (not (is_ribbon p)) h.0).1, no_ribbons panes h.1)

pub read_as_before : (end : ℕ) (bytes : List ℕ) (panes : List Pane) → ReadAsBefore end bytes panes
read_as_before end bytes panes = record {
  read_as_before = same_panes end bytes panes;
  no_ribbon = λ e. no_ribbons panes (part_rules form_before end bytes panes e).allowed;
}
