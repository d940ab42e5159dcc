-- What holds of every refused file. The offset of a refusal is within the file: a line stands before its part's end.
--     refused_within        the offset is at most 65535
--     not_refused_with_7    the number is not 7, which is that of no cause
use Prim.Native.Nat.{ℕ, zero, suc, ◌-◌, ◌≤◌}
use mathlib.Core.Path.{◌≡◌, refl, subst}
use mathlib.Core.Bool.{Bool, true, false, ◌&&◌, ◌||◌}
use mathlib.Core.List.{List, [], ◌∷◌, ◌++◌, map}
use native.Mathlib.Omega.{arith}
use lib.Dec.{leb, ltb}
use lib.ListN.{length, drop}
use borrow.Author.Tests.{leb-true, ltb-false}
use Rattle.std.specs.Prelude.{if◌then◌else◌}
use Rattle.causes.specs.Answer.{refuses}
use Rattle.causes.specs.declared.Cause.{Cause}
use Rattle.causes.specs.declared.Cause.TheVariants.{FileLength, NoTrailer, PartOffsets}
use Rattle.causes.proofs.Numbers.{no_number_7}
use Rattle.job_part.specs.Part.{Form, Judged, taken, faulty, judged, Lines, whole, stopped, lines, part_lines}
use Rattle.job_glass.specs.GlassLine.{glass_form}
use Rattle.job_glass.specs.declared.Glass.{Glass}
use Rattle.job_pane.specs.PaneLine.{pane_form}
use Rattle.job_pane.specs.declared.Pane.{Pane}
use Rattle.job_file.specs.File.{Trailer, offsets, no_trailer, trailer, Outcome, accepted, refused, part, parts_outcome, outcome_of}
use Rattle.job_file.specs.CheckAnswer.{check_answer}
use Rattle.job_file.specs.Laws.{NotRefusedWith7}

-- What is shown of a part and of a file.
abbrev PartWithin : {A : Type 0} → ℕ → Lines A → Type 0
PartWithin end (whole xs) = Unit
PartWithin end (stopped cause at) = at ≤ end

abbrev FileWithin : ℕ → Outcome → Type 0
FileWithin end (accepted glasses panes) = Unit
FileWithin end (refused cause at) = at ≤ end

module _ {A : Type 0} (form : Form A) where
  lines_within : (end left : ℕ) (earlier : List A) (bytes : List ℕ) → PartWithin end (lines form end left earlier bytes)
  unfolding lines
  lines_within end zero earlier [] = tt
  lines_within end zero earlier (b ∷ bytes) = omega arith
  lines_within end (suc left) earlier [] = tt
  lines_within end (suc left) earlier (b ∷ bytes) =
      go (judged form (map form.id earlier) (b ∷ bytes)) (λ x rest. lines_within end left (earlier ++ (x ∷ [])) rest)
    where
      go :
          (j : Judged A) →
          ((x : A) (rest : List ℕ) → PartWithin end (lines form end left (earlier ++ (x ∷ [])) rest)) →
          PartWithin {A = A} end
          (elim j [
            | taken x rest ↦ lines form end left (earlier ++ (x ∷ [])) rest
            | faulty cause ↦ stopped cause (end - length (b ∷ bytes))
          ])
      go (taken x rest) next = next x rest
      go (faulty cause) next = omega arith

  part_within : (end : ℕ) (bytes : List ℕ) → PartWithin end (part_lines form end bytes)
  unfolding part_lines
  part_within end bytes = lines_within end form.most [] bytes

parts_within : (file : List ℕ) (glass pane end : ℕ) → pane ≤ end → FileWithin end (parts_outcome file glass pane end)
unfolding parts_outcome
parts_within file glass pane end l =
    go (part_lines glass_form pane (part file glass pane)) (part_lines pane_form end (part file pane end))
    (part_within glass_form pane (part file glass pane)) (part_within pane_form end (part file pane end))
  where
    go :
        (gs : Lines Glass) (ps : Lines Pane) → PartWithin pane gs → PartWithin end ps →
        FileWithin end
        (elim gs [
          | whole glasses ↦
              elim ps [
                | whole panes ↦ accepted glasses panes
                | stopped cause at ↦ refused cause at
              ]
          | stopped cause at ↦ refused cause at
        ])
    go (whole glasses) (whole panes) g p = tt
    go (whole glasses) (stopped cause at) g p = p
    go (stopped cause at) ps g p = omega (arith, g, l)

within : (file : List ℕ) → FileWithin 65535 (outcome_of file)
unfolding outcome_of
within file = sized (ltb (length file) 14) (ltb 65535 (length file)) refl
  where
    end : ℕ
    end = length file - 14

    widen : end ≤ 65535 → (o : Outcome) → FileWithin end o → FileWithin 65535 o
    widen l (accepted glasses panes) w = tt
    widen l (refused cause at) w = omega (arith, w, l)

    ordered :
        (glass pane : ℕ) (a b : Bool) → leb pane end ≡ b →
        FileWithin end (if a && b then parts_outcome file glass pane end else refused PartOffsets end)
    ordered glass pane true true e = parts_within file glass pane end (leb-true pane end e)
    ordered glass pane true false e = omega arith
    ordered glass pane false b e = omega arith

    behind : Trailer → Outcome
    behind t =
        elim t [
          | offsets glass pane ↦ if leb glass pane && leb pane end then parts_outcome file glass pane end else refused PartOffsets end
          | no_trailer ↦ refused NoTrailer end
        ]

    trailed : (t : Trailer) → FileWithin end (behind t)
    trailed (offsets glass pane) = ordered glass pane (leb glass pane) (leb pane end) refl
    trailed no_trailer = omega arith

    sized :
        (a b : Bool) → ltb 65535 (length file) ≡ b →
        FileWithin 65535 (if a || b then refused FileLength 0 else behind (trailer (drop end file)))
    sized true b e = omega arith
    sized false true e = omega arith
    sized false false e =
        widen (omega (arith, ltb-false 65535 (length file) e)) (behind (trailer (drop end file)))
        (trailed (trailer (drop end file)))

pub refused_within : (file : List ℕ) (cause : Cause) (offset : ℕ) → outcome_of file ≡ refused cause offset → offset ≤ 65535
refused_within file cause offset is = subst (FileWithin 65535) is (within file)

pub not_refused_with_7 : NotRefusedWith7
not_refused_with_7 file offset = go (outcome_of file)
  where
    go : (o : Outcome) → check_answer o ≡ refuses 7 offset → ⊥
    go (accepted glasses panes) e = cc
    go (refused cause at) e = no_number_7 cause (cc)
