-- What the call `verdict` answers: documents 01 and 02, "What each cause gives" and "The four clauses"; demands 1 and 2. Of every file and
-- any two ids it is the verdict, or the first cause why there is none.
use Rattle.std.specs.Prelude.{ℕ, Some, None}
use Rattle.ids.specs.Lookup.{place_of}
use Rattle.causes.specs.Answer.{Answer, gives, refusal}
use Rattle.causes.specs.declared.Cause.TheVariants.{NoPane, NoGlass}
use Rattle.job_file.specs.File.{Outcome, accepted, refused}
use Rattle.job_file.specs.Entries.{glass_at, pane_at, glass_ids_of, pane_ids_of}
use Rattle.clauses.specs.Verdict.{verdict_of}
use Rattle.clauses.specs.declared.judging.Verdict.{Verdict}

-- The answer that a question about the pane and the glass of two ids should have: the file's own refusal comes first, then that of
-- an unknown pane, then that of an unknown glass.
unfoldable pub verdict_answer : Outcome → (pane_id glass_id : ℕ) → Answer Verdict
verdict_answer (refused cause offset) pane_id glass_id = refusal cause offset
verdict_answer (accepted glasses panes) pane_id glass_id =
    elim (place_of pane_id (pane_ids_of panes)) [
      | None ↦ refusal NoPane 0
      | Some p ↦
          elim (place_of glass_id (glass_ids_of glasses)) [
            | None ↦ refusal NoGlass 0
            | Some g ↦ gives (verdict_of (pane_at panes p) (glass_at glasses g))
          ]
    ]
