-- The answer to a question about an accepted file.
--     answer_placed    by the places of the two ids
--     answer_found     by the first pane and the first glass that have them
use Prim.Native.Nat.{ℕ}
use mathlib.Core.Path.{◌≡◌, refl}
use mathlib.Core.List.{List}
use Rattle.std.specs.Prelude.{Option, Some, None, nat_eq, find}
use Rattle.ids.specs.Lookup.{place_of}
use Rattle.job_part.proofs.Places.{entry_at, entry_of_id}
use Rattle.job_glass.specs.GlassLine.{blank_glass}
use Rattle.job_glass.specs.declared.Glass.{Glass}
use Rattle.job_pane.specs.PaneLine.{blank_pane}
use Rattle.job_pane.specs.declared.Pane.{Pane}
use Rattle.job_file.specs.File.{accepted}
use Rattle.job_file.specs.Entries.{glass_ids_of, pane_ids_of}
use Rattle.clauses.specs.VerdictAnswer.{verdict_answer}
use Rattle.clauses.specs.Internal.Found.{found_answer}

pub answer_placed :
    (glasses : List Glass) (panes : List Pane) (pane glass : ℕ) →
    found_answer
    (entry_at blank_pane panes (place_of pane (pane_ids_of panes)))
    (entry_at blank_glass glasses (place_of glass (glass_ids_of glasses)))
    ≡ verdict_answer (accepted glasses panes) pane glass
unfolding verdict_answer
answer_placed glasses panes pane glass =
    go (place_of pane (pane_ids_of panes)) (place_of glass (glass_ids_of glasses)) refl refl
  where
    go :
        (p g : Option ℕ) → place_of pane (pane_ids_of panes) ≡ p → place_of glass (glass_ids_of glasses) ≡ g →
        found_answer (entry_at blank_pane panes p) (entry_at blank_glass glasses g)
        ≡ verdict_answer (accepted glasses panes) pane glass
    go None g is there = rw (verdict_answer, is)
    go (Some p) None is there = rw (verdict_answer, is, there)
    go (Some p) (Some g) is there = rw (verdict_answer, is, there)

pub answer_found :
    (glasses : List Glass) (panes : List Pane) (pane glass : ℕ) →
    found_answer (find (λ p. nat_eq p.id pane) panes) (find (λ g. nat_eq g.id glass) glasses)
    ≡ verdict_answer (accepted glasses panes) pane glass
answer_found glasses panes pane glass =
    rw (entry_of_id (λ p. p.id) pane blank_pane panes, entry_of_id (λ g. g.id) glass blank_glass glasses)
    (answer_placed glasses panes pane glass)
