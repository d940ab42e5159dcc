-- Clause 2 by sight size, as before document 02, 2026-02, and what follows from the cut size for it.
use Rattle.std.specs.Prelude.{◌≡◌, Bool, not, false}
use Rattle.job_glass.specs.declared.Glass.{Glass}
use Rattle.job_pane.specs.declared.Pane.{Pane}
use Rattle.cut_size.specs.Size.{lies_within, size_fails}

-- The clause by document 01 alone, which knows no cover.
abbrev pub sight_size_fails : Pane → Glass → Bool
sight_size_fails p g = not (lies_within p.w p.h g)

-- A law, for a pane and a glass of any values: what passes by cut size passes by sight size.
abbrev pub PassesBySight : Pane → Glass → Type 0
PassesBySight p g = size_fails p g ≡ false → sight_size_fails p g ≡ false
