-- How many sheets are missing of a file: its rules tell glasses apart by their ids, and let none be 0.
--     file_missing_sheets    as specs/Laws.antt states it
use mathlib.Core.List.{List}
use Rattle.job_glass.specs.declared.Glass.{Glass}
use Rattle.job_pane.specs.declared.Pane.{Pane}
use Rattle.job_file.specs.Entries.{stocks_of}
use Rattle.row_placing.proofs.Laws.{missing_sheets}
use Rattle.placing.specs.FileSchedule.{schedule_of}
use Rattle.placing.specs.Laws.{FileMissingSheets}
use Rattle.placing.proofs.Schedules.{known_file}

pub file_missing_sheets : (glasses : List Glass) (panes : List Pane) → FileMissingSheets glasses panes
file_missing_sheets glasses panes rules =
    missing_sheets (schedule_of glasses (stocks_of glasses) panes)
    (record { differ = rules.of_glasses.distinct; not_zero = (known_file rules (stocks_of glasses)).id_low })
