-- Documents 01 and 02, "The four clauses", clause 2, size: a sheet has to hold the cut size of the pane.
use Rattle.std.specs.Prelude.{ℕ, ◌+◌, ◌*◌, Bool, not, ◌&&◌, ◌||◌, leb}
use Rattle.job_glass.specs.declared.Glass.{Glass}
use Rattle.job_pane.specs.declared.Pane.{Pane}
use Rattle.cut_size.specs.EdgeCover.{edge_cover}

-- What a side of a pane takes of a sheet, in mm: the side as it is drawn, and the cover at both of its ends.
abbrev pub cut_side : (side cover : ℕ) → ℕ
cut_side side cover = side + 2 * cover

-- Of w by h, neither side is longer than the sheet's, one way round or the other; equal sides lie within.
abbrev pub lies_within : (w h : ℕ) → Glass → Bool
lies_within w h g = (leb w g.w && leb h g.h) || (leb w g.h && leb h g.w)

-- Both sides take the cover of the glass's thickness, however many edges are supported.
abbrev pub size_fails : Pane → Glass → Bool
size_fails p g =
    let cover : ℕ = edge_cover g.thick in
    not (lies_within (cut_side p.w cover) (cut_side p.h cover) g)
