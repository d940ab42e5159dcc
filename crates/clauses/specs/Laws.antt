-- Laws of the verdict, for a pane and a glass of any values.
use Rattle.std.specs.Prelude.{ℕ, ◌≤◌, ◌<◌, ◌≡◌, Bool, true, false, ltb, eqb, if◌then◌else◌}
use Rattle.job_glass.specs.declared.Glass.{Glass}
use Rattle.job_pane.specs.declared.Pane.{Pane}
use Rattle.job_pane.specs.Ribbon.{is_ribbon}
use Rattle.cut_size.specs.Size.{size_fails}
use Rattle.span_table.specs.declared.Column.{Column}
use Rattle.point_load.specs.Support.{span_of}
use Rattle.point_load.specs.PointLoad.{span_entry, point_load_fails}
use Rattle.point_load.specs.RibbonLaws.{column_before}
use Rattle.uniform_load.specs.UniformLoad.{uniform_load_fails}
use Rattle.clauses.specs.Kind.{kind_fails}
use Rattle.clauses.specs.Verdict.{first_failure, verdict_of}
use Rattle.clauses.specs.declared.judging.Verdict.{Verdict}
use Rattle.clauses.specs.declared.judging.Verdict.TheVariants.{Passes, Fails}

-- A clause, by its number; any number but 1, 2 and 3 reads as that of clause 4.
abbrev pub clause_fails : ℕ → Pane → Glass → Bool
clause_fails n p g =
    if eqb n 1 then kind_fails p g
    else if eqb n 2 then size_fails p g
    else if eqb n 3 then point_load_fails p g
    else uniform_load_fails p g

-- A clause is the first to fail: it fails, and those before it pass.
pub record FirstToFail (n : ℕ) (p : Pane) (g : Glass) : Type 0 where
  pub low : 1 ≤ n
  pub high : n ≤ 4
  pub fails : clause_fails n p g ≡ true
  pub before : (m : ℕ) → 1 ≤ m → m < n → clause_fails m p g ≡ false

-- A glass with other span constants, or another stock, and else the same.
abbrev pub with_constants : ℕ → ℕ → Glass → Glass
with_constants two four g = record {
  id = g.id;
  kind = g.kind;
  thick = g.thick;
  w = g.w;
  h = g.h;
  two = two;
  four = four;
  stock = g.stock;
}

abbrev pub with_stock : ℕ → Glass → Glass
with_stock stock g = record {
  id = g.id;
  kind = g.kind;
  thick = g.thick;
  w = g.w;
  h = g.h;
  two = g.two;
  four = g.four;
  stock = stock;
}

-- The verdict, if clause 3 read its entry in this column.
abbrev pub verdict_in : Column → Pane → Glass → Verdict
verdict_in column p g =
    first_failure (kind_fails p g) (size_fails p g) (ltb (span_entry column p g) (span_of p)) (uniform_load_fails p g)

pub record VerdictLaws (p : Pane) (g : Glass) : Type 0 where
  -- a verdict that fails names the first clause that does, and one that passes says that none does
  pub first : (n : ℕ) → verdict_of p g ≡ Fails n → FirstToFail n p g
  pub none : verdict_of p g ≡ Passes → (n : ℕ) → clause_fails n p g ≡ false
  -- a larger "two" or "four" never turns a pass into a failure
  pub constants :
      (two four : ℕ) → g.two ≤ two → g.four ≤ four → verdict_of p g ≡ Passes → verdict_of p (with_constants two four g) ≡ Passes
  -- the stock has no say
  pub stock : (stock : ℕ) → verdict_of p (with_stock stock g) ≡ verdict_of p g
  -- a pane that is no ribbon is judged by the column that it read before document 02, 2026-01
  pub no_ribbon : is_ribbon p ≡ false → verdict_of p g ≡ verdict_in (column_before p) p g
