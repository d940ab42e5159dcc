-- The laws of accepted files, for the layers above. An accepted file passed every test of the definition, one after the
-- other, so what each test says holds; and what each line keeps, the lists keep.
--     Accepted, accepted_was       what a file was that is accepted: its length, its offsets, and what each part read as
--     accepted_is                  such a file is accepted
--     accepted_rules               the lists of an accepted file keep the rules
--     glass_values, pane_values    every number of an accepted glass or pane is within its bounds
--     glass_ids, pane_ids          no two glasses, and no two panes, have one id
use Prim.Native.Nat.{ℕ, ◌-◌, ◌≤◌, ◌<◌}
use mathlib.Core.Path.{◌≡◌, refl}
use mathlib.Core.Bool.{Bool, true, false, ◌&&◌, ◌||◌}
use mathlib.Core.List.{List}
use lib.Dec.{leb, ltb}
use lib.ListN.{length, get_or, drop}
use borrow.Author.Tests.{ltb-false, leb-true, le-ltb, le-leb}
use Rattle.causes.specs.declared.Cause.{Cause}
use Rattle.causes.specs.declared.Cause.TheVariants.{FileLength, NoTrailer, PartOffsets}
use Rattle.std.specs.Prelude.{if◌then◌else◌}
use Rattle.job_part.specs.Part.{Lines, whole, stopped, part_lines}
use Rattle.job_glass.specs.GlassLine.{glass_form, allowed_glass, blank_glass}
use Rattle.job_pane.specs.PaneLine.{pane_form, allowed_pane, blank_pane}
use Rattle.job_glass.specs.Internal.Values.{GlassValues}
use Rattle.job_pane.specs.Internal.Values.{PaneValues}
use Rattle.job_glass.specs.declared.Glass.{Glass}
use Rattle.job_pane.specs.declared.Pane.{Pane}
use Rattle.job_part.proofs.Lists.{every_at}
use Rattle.job_part.proofs.Laws.{part_rules, ids_at}
use Rattle.job_glass.proofs.Values.{allowed_glass_lem}
use Rattle.job_pane.proofs.Values.{allowed_pane_lem}
use Rattle.job_file.specs.File.{Trailer, offsets, no_trailer, trailer, Outcome, accepted, refused, part, parts_outcome, outcome_of}
use Rattle.job_file.specs.Rules.{Rules}

-- What each test of the file says.
pub record Accepted (file : List ℕ) (glasses : List Glass) (panes : List Pane) : Type 0 where
  pub shortest : 14 ≤ length file
  pub longest : length file ≤ 65535
  pub glass : ℕ
  pub pane : ℕ
  pub trailer_says : trailer (drop (length file - 14) file) ≡ offsets glass pane
  pub in_order : glass ≤ pane
  pub within : pane ≤ length file - 14
  pub glass_part : part_lines glass_form pane (part file glass pane) ≡ whole glasses
  pub pane_part : part_lines pane_form (length file - 14) (part file pane (length file - 14)) ≡ whole panes

-- Of an accepted file, no test was refused: both of two that must pass did, and neither of two that must fail did.
module _ (gs : List Glass) (ps : List Pane) (cause : Cause) (at : ℕ) where
  both_pass :
      (a b : Bool) (o : Outcome) →
      (if a && b then o else refused cause at) ≡ accepted gs ps → (a ≡ true) × (b ≡ true) × (o ≡ accepted gs ps)
  both_pass true true o e = (refl, refl, e)
  both_pass true false o e = cc
  both_pass false b o e = cc

  both_fail :
      (a b : Bool) (o : Outcome) →
      (if a || b then refused cause at else o) ≡ accepted gs ps → (a ≡ false) × (b ≡ false) × (o ≡ accepted gs ps)
  both_fail false false o e = (refl, refl, e)
  both_fail false true o e = cc
  both_fail true b o e = cc

module _ (file : List ℕ) (gs : List Glass) (ps : List Pane) where
  parts_were :
      (glass pane end : ℕ) →
      parts_outcome file glass pane end ≡ accepted gs ps →
      (part_lines glass_form pane (part file glass pane) ≡ whole gs) × (part_lines pane_form end (part file pane end) ≡ whole ps)
  unfolding parts_outcome
  parts_were glass pane end =
      go (part_lines glass_form pane (part file glass pane)) (part_lines pane_form end (part file pane end))
    where
      go :
          (l : Lines Glass) (m : Lines Pane) →
          elim l [
            | whole glasses ↦
                elim m [
                  | whole panes ↦ accepted glasses panes
                  | stopped cause at ↦ refused cause at
                ]
            | stopped cause at ↦ refused cause at
          ] ≡ accepted gs ps →
          (l ≡ whole gs) × (m ≡ whole ps)
      go (whole glasses) (whole panes) e = (cc, cc)
      go (whole glasses) (stopped cause at) e = cc
      go (stopped cause at) m e = cc

  pub accepted_was : outcome_of file ≡ accepted gs ps → Accepted file gs ps
  unfolding outcome_of
  accepted_was e =
      let end : ℕ = length file - 14 in
      let l = both_fail gs ps FileLength 0 (ltb (length file) 14) (ltb 65535 (length file)) _ e in
      go (ltb-false (length file) 14 l.0) (ltb-false 65535 (length file) l.1) (trailer (drop end file)) refl l.2
    where
      go :
          14 ≤ length file → length file ≤ 65535 →
          (t : Trailer) → trailer (drop (length file - 14) file) ≡ t →
          elim t [
            | offsets glass pane ↦
                if leb glass pane && leb pane (length file - 14)
                then parts_outcome file glass pane (length file - 14)
                else refused PartOffsets (length file - 14)
            | no_trailer ↦ refused NoTrailer (length file - 14)
          ] ≡ accepted gs ps →
          Accepted file gs ps
      go short long (offsets glass pane) q f =
          let b = both_pass gs ps PartOffsets (length file - 14) (leb glass pane) (leb pane (length file - 14)) _ f in
          let p = parts_were glass pane (length file - 14) b.2 in
          record {
            shortest = short;
            longest = long;
            glass = glass;
            pane = pane;
            trailer_says = q;
            in_order = leb-true glass pane b.0;
            within = leb-true pane (length file - 14) b.1;
            glass_part = p.0;
            pane_part = p.1;
          }
      go short long no_trailer q f = cc

  pub accepted_is : Accepted file gs ps → outcome_of file ≡ accepted gs ps
  unfolding outcome_of parts_outcome
  accepted_is a =
      rw (
        le-ltb (length file) 14 a.shortest,
        le-ltb 65535 (length file) a.longest,
        a.trailer_says,
        le-leb a.glass a.pane a.in_order,
        le-leb a.pane (length file - 14) a.within,
        parts_outcome,
        a.glass_part,
        a.pane_part,
      )

  pub accepted_rules : outcome_of file ≡ accepted gs ps → Rules gs ps
  accepted_rules e =
      let a = accepted_was e in
      record {
        of_glasses = part_rules glass_form a.pane _ gs a.glass_part;
        of_panes = part_rules pane_form (length file - 14) _ ps a.pane_part;
      }

-- The rules of a job, at an index or two.
module _ {gs : List Glass} {ps : List Pane} (rules : Rules gs ps) where
  pub glass_values : (i : ℕ) → i < length gs → GlassValues (get_or gs i blank_glass)
  glass_values i l =
      allowed_glass_lem (get_or gs i blank_glass) (every_at allowed_glass gs blank_glass i rules.of_glasses.allowed l)

  pub pane_values : (i : ℕ) → i < length ps → PaneValues (get_or ps i blank_pane)
  pane_values i l =
      allowed_pane_lem (get_or ps i blank_pane) (every_at allowed_pane ps blank_pane i rules.of_panes.allowed l)

  pub glass_ids : (i j : ℕ) → i < j → j < length gs → (get_or gs i blank_glass).id ≡ (get_or gs j blank_glass).id → ⊥
  glass_ids i j = ids_at glass_form blank_glass gs i j refl rules.of_glasses

  pub pane_ids : (i j : ℕ) → i < j → j < length ps → (get_or ps i blank_pane).id ≡ (get_or ps j blank_pane).id → ⊥
  pane_ids i j = ids_at pane_form blank_pane ps i j refl rules.of_panes
