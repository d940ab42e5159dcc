-- The laws of cut size and sight size hold: clauses 3 and 4 read nothing of the sheet, and of a glass only what the laws name; and
-- where clause 2 passes by cut size it passes by sight size, so that all four tests are the same.
use mathlib.Core.Path.{◌≡◌, refl}
use mathlib.Core.Logic.{◌⊎◌, inl}
use mathlib.Core.Bool.{Bool, true, false}
use native.Mathlib.Omega.{arith}
use Rattle.job_glass.specs.declared.Glass.{Glass}
use Rattle.job_pane.specs.declared.Pane.{Pane}
use Rattle.cut_size.specs.Size.{size_fails}
use Rattle.cut_size.proofs.SightSize.{passes_by_sight}
use Rattle.clauses.specs.Verdict.{verdict_of}
use Rattle.clauses.specs.SightLaws.{verdict_by_sight, SightLaws}
use Rattle.clauses.specs.declared.judging.Verdict.TheVariants.{Fails}

module _ (p : Pane) (g : Glass) where
  kept : size_fails p g ≡ false → verdict_of p g ≡ verdict_by_sight p g
  unfolding verdict_of
  kept e = rw (e, passes_by_sight p g e)

  turned : (verdict_of p g ≡ verdict_by_sight p g) ⊎ (verdict_of p g ≡ Fails 2)
  unfolding verdict_of
  turned = go (size_fails p g) refl
    where
      go : (b : Bool) → size_fails p g ≡ b → (verdict_of p g ≡ verdict_by_sight p g) ⊎ (verdict_of p g ≡ Fails 2)
      go false e = inl (kept e)
      go true e = grind (arith, e)

  pub sight_laws : SightLaws p g
  sight_laws = record {
    point_load_any_sheet = λ w h. refl;
    uniform_load_any_sheet = λ w h. refl;
    span_drawn = grind arith;
    point_load_by_entry = λ other e. rw e;
    uniform_load_by_pressure = λ other e f. rw (e, f);
    verdict_kept = kept;
    kept_or_turned = turned;
  }
