-- The reading definition and the grammar agree. `proofs/Grammar.antt` proves each statement.
--     Complete   what is written for lists within the rules is accepted, and reads back as exactly those lists
--     Sound      of an accepted file, the parts are exactly what is written for the lists that were read, which keep the rules
--     Unique     a file is accepted exactly when it is written for some notes and lists within the rules, and then for one
--                pair of lists alone
use Rattle.std.specs.Prelude.{ℕ, ◌-◌, ◌≤◌, ◌≡◌, ◌↔◌, List, length, drop}
use Rattle.job_file.specs.File.{offsets, trailer, part, accepted, outcome_of}
use Rattle.job_file.specs.Rules.{Rules}
use Rattle.job_glass.specs.declared.Glass.{Glass}
use Rattle.job_pane.specs.declared.Pane.{Pane}
use Rattle.job_grammar.specs.Written.{written_glass, written_pane, written_part, written_file}

-- A file is written for some notes and these lists, which keep the rules, and is not too long.
pub record IsWritten (file : List ℕ) (glasses : List Glass) (panes : List Pane) : Type 0 where
  pub notes : List ℕ
  pub bytes : file ≡ written_file notes glasses panes
  pub rules : Rules glasses panes
  pub fits : length file ≤ 65535

abbrev pub Complete : Type 0
Complete =
    (notes : List ℕ) (glasses : List Glass) (panes : List Pane) →
    Rules glasses panes →
    length (written_file notes glasses panes) ≤ 65535 →
    outcome_of (written_file notes glasses panes) ≡ accepted glasses panes

-- The two parts of a file, from the offsets that its trailer gives.
pub record WrittenParts (file : List ℕ) (glasses : List Glass) (panes : List Pane) : Type 0 where
  pub glass : ℕ
  pub pane : ℕ
  pub trailer_says : trailer (drop (length file - 14) file) ≡ offsets glass pane
  pub glass_part : part file glass pane ≡ written_part written_glass glasses
  pub pane_part : part file pane (length file - 14) ≡ written_part written_pane panes

abbrev pub Sound : Type 0
Sound =
    (file : List ℕ) (glasses : List Glass) (panes : List Pane) →
    outcome_of file ≡ accepted glasses panes →
    WrittenParts file glasses panes × IsWritten file glasses panes

-- Some lists are those of an accepted file.
pub record IsAccepted (file : List ℕ) : Type 0 where
  pub glasses : List Glass
  pub panes : List Pane
  pub outcome : outcome_of file ≡ accepted glasses panes

-- Some lists are those that a file is written for.
pub record IsWrittenForSome (file : List ℕ) : Type 0 where
  pub glasses : List Glass
  pub panes : List Pane
  pub written : IsWritten file glasses panes

abbrev pub Unique : Type 0
Unique =
    ((file : List ℕ) → IsAccepted file ↔ IsWrittenForSome file) ×
    ((file : List ℕ) (glasses glasses' : List Glass) (panes panes' : List Pane) →
    IsWritten file glasses panes →
    IsWritten file glasses' panes' →
    (glasses ≡ glasses') × (panes ≡ panes'))
