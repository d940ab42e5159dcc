-- Document 01, "Bench examples": those that the file alone settles, each by computing what the definition says of its bytes.
--     three_times, ribbon          (c) a four-edge pane 1000 by 3000, and by 3001, is accepted
--     nothing_wanted               (h) `T 00000 00000` alone is accepted, with no glass and no pane
--     thirteen_bytes               (i) 13 bytes: number 1, whatever they are
--     job_answer, job_read         (j) the job of "The program `canopy`": two glasses and two panes, and which
use Prim.Native.Nat.{ℕ}
use mathlib.Core.Path.{◌≡◌, refl, ap}
use mathlib.Core.List.{List, [], ◌∷◌}
use lib.ListN.{length}
use Rattle.causes.specs.declared.Cause.TheVariants.{FileLength}
use Rattle.job_glass.specs.declared.Glass.{Glass}
use Rattle.job_pane.specs.declared.Pane.{Pane}
use Rattle.job_pane.specs.declared.Wind.TheVariants.{ByPressure, ByClass}
use Rattle.job_line.specs.Number.{digits, number}
use Rattle.job_line.specs.Line.{numbers, ended, line}
use Rattle.ids.specs.Ids.{among}
use Rattle.job_part.specs.Part.{judged_entry, judged, lines, part_lines}
use Rattle.causes.specs.Answer.{gives}
use Rattle.job_file.specs.File.{trailer, Outcome, accepted, refused, parts_outcome, outcome_of}
use Rattle.job_file.specs.CheckAnswer.{file_counts, check_answer}
use Rattle.bench_examples.specs.Files.{pane3000, pane3001, pane_c, glass8, glass10, job_h, job_j}
use Rattle.bench_examples.specs.Calls.{job_empty_rack}

-- To compute an outcome, every definition of the reading is opened.
unfoldable pub outcome : List ℕ → Outcome
unfolding digits number numbers ended line among judged_entry judged lines part_lines trailer parts_outcome outcome_of
outcome file = outcome_of file

-- (c)
pub three_times : outcome_of pane3000 ≡ accepted [] (pane_c 3000 ∷ [])
unfolding outcome
three_times = refl

pub ribbon : outcome_of pane3001 ≡ accepted (glass8 ∷ glass10 ∷ []) (pane_c 3001 ∷ [])
unfolding outcome
ribbon = refl

-- (h)
pub nothing_wanted : outcome_of job_h ≡ accepted [] []
unfolding outcome
nothing_wanted = refl

-- (i)
pub thirteen_bytes : (file : List ℕ) → length file ≡ 13 → outcome_of file ≡ refused FileLength 0
unfolding outcome_of
thirteen_bytes file e = rw e

-- (j) The glasses and the panes that the job has.
abbrev pub glasses_j : List Glass
glasses_j =
    record { id = 9; kind = 1; thick = 12; w = 2400; h = 3600; two = 21304; four = 23857; stock = 1 }
    ∷ record { id = 7; kind = 1; thick = 10; w = 2400; h = 3600; two = 17976; four = 20130; stock = 1 }
    ∷ []

abbrev pub panes_j : List Pane
panes_j =
    record { id = 1; edges = 4; angle = 30; awning = 0; top = 3000; w = 900; h = 1500; wind = ByPressure 60 95 }
    ∷ record { id = 2; edges = 4; angle = 10; awning = 0; top = 3000; w = 500; h = 1000; wind = ByPressure 60 95 }
    ∷ []

pub job_read : outcome_of job_j ≡ accepted glasses_j panes_j
unfolding outcome
job_read = refl

pub job_answer : check_answer (outcome_of job_j) ≡ gives (file_counts 2 2)
job_answer = ap check_answer job_read

-- Two panes and no glass.
abbrev pub panes_empty : List Pane
panes_empty =
    record { id = 2; edges = 4; angle = 30; awning = 0; top = 3000; w = 900; h = 1500; wind = ByPressure 60 95 }
    ∷ record { id = 1; edges = 4; angle = 30; awning = 0; top = 3000; w = 500; h = 5000; wind = ByClass 10 2 }
    ∷ []

pub panes_read : outcome_of job_empty_rack ≡ accepted [] panes_empty
unfolding outcome
panes_read = refl
