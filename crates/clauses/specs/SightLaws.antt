-- Laws of the verdict by cut size and by sight size, which clause 2 compared before document 02, 2026-02, for a pane and a glass of any
-- values.
use Rattle.std.specs.Prelude.{ℕ, ◌≡◌, ◌⊎◌, false}
use Rattle.job_glass.specs.declared.Glass.{Glass}
use Rattle.job_pane.specs.declared.Pane.{Pane}
use Rattle.cut_size.specs.Size.{size_fails}
use Rattle.cut_size.specs.SightSize.{sight_size_fails}
use Rattle.point_load.specs.Support.{column_of, span_of}
use Rattle.point_load.specs.PointLoad.{span_entry, point_load_fails}
use Rattle.uniform_load.specs.UniformLoad.{design_pressure, span_constant, uniform_load_fails}
use Rattle.clauses.specs.Kind.{kind_fails}
use Rattle.clauses.specs.Verdict.{first_failure, verdict_of}
use Rattle.clauses.specs.declared.judging.Verdict.{Verdict}
use Rattle.clauses.specs.declared.judging.Verdict.TheVariants.{Fails}

-- A glass with another sheet, w by h, and else the same.
abbrev pub with_sheet : (w h : ℕ) → Glass → Glass
with_sheet w h g = record {
  id = g.id;
  kind = g.kind;
  thick = g.thick;
  w = w;
  h = h;
  two = g.two;
  four = g.four;
  stock = g.stock;
}

-- The verdict, if clause 2 read the sight size.
abbrev pub verdict_by_sight : Pane → Glass → Verdict
verdict_by_sight p g = first_failure (kind_fails p g) (sight_size_fails p g) (point_load_fails p g) (uniform_load_fails p g)

pub record SightLaws (p : Pane) (g : Glass) : Type 0 where
  -- clauses 3 and 4 do not read the sheet's sides: of two glasses that differ in those alone, they say the same
  pub point_load_any_sheet : (w h : ℕ) → point_load_fails p (with_sheet w h g) ≡ point_load_fails p g
  pub uniform_load_any_sheet : (w h : ℕ) → uniform_load_fails p (with_sheet w h g) ≡ uniform_load_fails p g
  -- and they add no cover: the span is a side as it is drawn, and of two glasses that span as much, or that have the same P and K,
  -- they say the same, whatever the covers
  pub span_drawn : (span_of p ≡ p.w) ⊎ (span_of p ≡ p.h)
  pub point_load_by_entry :
      (other : Glass) →
      span_entry (column_of p) p other ≡ span_entry (column_of p) p g → point_load_fails p other ≡ point_load_fails p g
  pub uniform_load_by_pressure :
      (other : Glass) →
      design_pressure p other ≡ design_pressure p g → span_constant p.edges other ≡ span_constant p.edges g →
      uniform_load_fails p other ≡ uniform_load_fails p g
  -- where the cut size lies within the sheet, the verdict did not change
  pub verdict_kept : size_fails p g ≡ false → verdict_of p g ≡ verdict_by_sight p g
  -- of every glass, nothing changed but that some verdicts became that clause 2 fails: so no failure turned into a pass
  pub kept_or_turned : (verdict_of p g ≡ verdict_by_sight p g) ⊎ (verdict_of p g ≡ Fails 2)
