-- Glasses and panes by their places in the file, and their ids and stocks.
use Rattle.std.specs.Prelude.{ℕ, List, map, get_or}
use Rattle.job_glass.specs.GlassLine.{blank_glass}
use Rattle.job_glass.specs.declared.Glass.{Glass}
use Rattle.job_pane.specs.PaneLine.{blank_pane}
use Rattle.job_pane.specs.declared.Pane.{Pane}

-- The glass and the pane at a place of the file, counted from 0; past the last, one of zeros, which no file has.
abbrev pub glass_at : List Glass → ℕ → Glass
glass_at glasses g = get_or glasses g blank_glass

abbrev pub pane_at : List Pane → ℕ → Pane
pane_at panes p = get_or panes p blank_pane

-- The ids of glasses and of panes, and the stocks of glasses.
abbrev pub glass_ids_of : List Glass → List ℕ
glass_ids_of glasses = map (λ g. g.id) glasses

abbrev pub pane_ids_of : List Pane → List ℕ
pane_ids_of panes = map (λ p. p.id) panes

abbrev pub stocks_of : List Glass → List ℕ
stocks_of glasses = map (λ g. g.stock) glasses
