-- The laws of the verdict hold. The verdict given decides what each of the four tests was; a larger constant only raises K,
-- and no other test reads it; no test reads the stock; and the column of a pane that is no ribbon is document 01's.
use Prim.Native.Nat.{ℕ, ◌≤◌, ◌<◌}
use mathlib.Core.Path.{◌≡◌, refl, ap}
use mathlib.Core.Bool.{Bool, true, false}
use native.Mathlib.Nat.{mul-le-mul, le_trans}
use native.Mathlib.Omega.{arith}
use lib.Dec.{eqb}
use borrow.Author.Tests.{ltb-false, le-ltb}
use Rattle.std.specs.Prelude.{if◌then◌else◌}
use Rattle.job_glass.specs.declared.Glass.{Glass}
use Rattle.job_pane.specs.declared.Pane.{Pane}
use Rattle.job_pane.specs.Ribbon.{is_ribbon}
use Rattle.cut_size.specs.Size.{size_fails}
use Rattle.point_load.specs.PointLoad.{point_load_fails}
use Rattle.point_load.specs.RibbonLaws.{column_before}
use Rattle.point_load.proofs.RibbonLaws.{ribbon_laws}
use Rattle.uniform_load.specs.UniformLoad.{span_constant, uniform_load_fails}
use Rattle.clauses.specs.Kind.{kind_fails}
use Rattle.clauses.specs.Verdict.{first_failure, verdict_of}
use Rattle.clauses.specs.Laws.{clause_fails, FirstToFail, with_constants, with_stock, verdict_in, VerdictLaws}
use Rattle.clauses.specs.declared.judging.Verdict.TheVariants.{Passes, Fails}

-- The clauses by number, of any four tests.
abbrev nth : ℕ → Bool → Bool → Bool → Bool → Bool
nth n a b c d = if eqb n 1 then a else if eqb n 2 then b else if eqb n 3 then c else d

none_fails : (n : ℕ) → nth n false false false false ≡ false
none_fails n = grind arith

-- What `FirstToFail` says, of any four tests.
record First (n : ℕ) (a b c d : Bool) : Type 0 where
  low : 1 ≤ n
  high : n ≤ 4
  fails : nth n a b c d ≡ true
  before : (m : ℕ) → 1 ≤ m → m < n → nth m a b c d ≡ false

first_of : (n : ℕ) (a b c d : Bool) → first_failure a b c d ≡ Fails n → First n a b c d
first_of n a b c d e = record {
  low = grind arith;
  high = grind arith;
  fails = grind arith;
  before = λ m l h. grind arith;
}

-- Where the verdict passes, no test failed.
record NoneFails (a b c d : Bool) : Type 0 where
  kind : a ≡ false
  size : b ≡ false
  point : c ≡ false
  uniform : d ≡ false

none_of : (a b c d : Bool) → first_failure a b c d ≡ Passes → NoneFails a b c d
none_of a b c d e = record { kind = grind arith; size = grind arith; point = grind arith; uniform = grind arith }

module _ (p : Pane) (g : Glass) where
  tests : verdict_of p g ≡ Passes → NoneFails (kind_fails p g) (size_fails p g) (point_load_fails p g) (uniform_load_fails p g)
  unfolding verdict_of
  tests = none_of (kind_fails p g) (size_fails p g) (point_load_fails p g) (uniform_load_fails p g)

  first : (n : ℕ) → verdict_of p g ≡ Fails n → FirstToFail n p g
  unfolding verdict_of
  first n e =
      let f = first_of n (kind_fails p g) (size_fails p g) (point_load_fails p g) (uniform_load_fails p g) e in
      record { low = f.low; high = f.high; fails = f.fails; before = f.before }

  none : verdict_of p g ≡ Passes → (n : ℕ) → clause_fails n p g ≡ false
  none e n = let t = tests e in rw (t.kind, t.size, t.point, t.uniform) (none_fails n)

  -- K is no smaller.
  larger :
      (two four : ℕ) → g.two ≤ two → g.four ≤ four →
      span_constant p.edges g ≤ span_constant p.edges (with_constants two four g)
  larger two four h k = grind arith

  constants :
      (two four : ℕ) → g.two ≤ two → g.four ≤ four →
      verdict_of p g ≡ Passes → verdict_of p (with_constants two four g) ≡ Passes
  unfolding verdict_of
  constants two four h k e =
      let t = tests e in
      let l = larger two four h k in
      rw (t.kind, t.size, t.point, le-ltb _ _ (le_trans (ltb-false _ _ t.uniform) (mul-le-mul l l)))

  stock : (stock : ℕ) → verdict_of p (with_stock stock g) ≡ verdict_of p g
  unfolding verdict_of
  stock s = refl

  no_ribbon : is_ribbon p ≡ false → verdict_of p g ≡ verdict_in (column_before p) p g
  unfolding verdict_of
  no_ribbon e = ap (λ column. verdict_in column p g) ((ribbon_laws p).column_kept e)

  pub verdict_laws : VerdictLaws p g
  verdict_laws = record { first = first; none = none; constants = constants; stock = stock; no_ribbon = no_ribbon }
