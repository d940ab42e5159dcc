-- `lists::read_lists` meets its contract: how its parts ended decides what the file says.
use Rattle.std.proofs.Common.{rules}
use Rattle.job_file.proofs.Files.{glasses_refused, panes_refused, both_read, rules_read}
use Rattle.job_file.proofs.lists.read_lists.Goals as goal

pub returns-in_err-read_part-clause-says : goal.returns-in_err-read_part-clause-says
returns-in_err-read_part-clause-says c = search (rules, glasses_refused _ _ c.in_ok-parts.ensures _ _ c.in_err-read_part.ensures)

pub returns-in_err-read_part-2-clause-says : goal.returns-in_err-read_part-2-clause-says
returns-in_err-read_part-2-clause-says c =
    search (rules, panes_refused _ _ c.in_ok-parts.ensures _ c.in_ok-read_part.ensures _ _ c.in_err-read_part-2.ensures)

pub returns-clause-says : goal.returns-clause-says
returns-clause-says c = both_read _ _ c.in_ok-parts.ensures _ c.in_ok-read_part.ensures _ c.in_ok-read_part-2.ensures

pub returns-clause-rules : goal.returns-clause-rules
returns-clause-rules c = rules_read _ _ c.in_ok-parts.ensures _ c.in_ok-read_part.ensures _ c.in_ok-read_part-2.ensures
