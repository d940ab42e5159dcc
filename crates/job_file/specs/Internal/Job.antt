-- A job as a value, and what reading a file gives.
use Rattle.std.specs.Prelude.{List, Result, Ok, Err, take}
use Rattle.causes.specs.declared.Refusal.{Refusal}
use Rattle.job_glass.specs.declared.Glass.{Glass}
use Rattle.job_pane.specs.declared.Pane.{Pane}
use Rattle.job_file.specs.declared.job.Job.{Job}
use Rattle.job_file.specs.File.{Outcome, accepted, refused}

-- What reading a file into two lists says of it: these lists, or its refusal.
abbrev pub lists_say : Result (Unit {0}) Refusal → List Glass → List Pane → Outcome
lists_say (Ok done) glasses panes = accepted glasses panes
lists_say (Err r) glasses panes = refused r.cause r.offset

-- The glasses and the panes of a job.
abbrev pub glasses_of : Job → List Glass
glasses_of job = take job.glass_count job.glasses

abbrev pub panes_of : Job → List Pane
panes_of job = take job.pane_count job.panes

-- What reading a file says of it: its glasses and panes, or its refusal.
abbrev pub job_says : Result Job Refusal → Outcome
job_says (Ok job) = accepted (glasses_of job) (panes_of job)
job_says (Err r) = refused r.cause r.offset
