-- `place_rows` meets its contract, by the laws of the promise from what its parts leave.
use borrow.Author.Rules.{rules}
use mathlib.Core.Path.{refl, ◌∙◌}
use native.Mathlib.Omega.{arith}
use Rattle.basics.specs.Lent.{lent}
use Rattle.row_placing.proofs.Glazing.{rows_full, rows_short}
use Rattle.row_placing.proofs.place_rows.Goals as goal

pub returns-then-placed-wanted : goal.returns-then-placed-wanted
returns-then-placed-wanted c =
    let a = c.args in
    let m = c.match_panes-tight in
    let w = c.write_answers-placed in
    rows_full a.rows.now a.sheets.now a.glass_ids.now a.pane_ids.now m.new.held m.result (m.auto.held ∙ c.requires.1)
    (search rules) m.ensures.greatest (lent a.answers.now w.new.answers) (lent a.group.now a.group.now) w.result w.ensures refl
    (omega arith)

pub returns-else-placed-wanted : goal.returns-else-placed-wanted
returns-else-placed-wanted c =
    let a = c.args in
    let m = c.match_panes-tight in
    let w = c.write_answers-placed in
    let g = c.write_group-group_length in
    rows_short a.rows.now a.sheets.now a.glass_ids.now a.pane_ids.now m.new.held m.result (m.auto.held ∙ c.requires.1)
    (search rules) m.ensures.greatest (lent a.answers.now w.new.answers) (lent a.group.now g.new.group) w.result w.ensures g.result
    c.if-placed-wanted.false g.ensures
