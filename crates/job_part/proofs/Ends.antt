-- What a caller learns of a part that was read: its first cause, or its entries, since a whole part has every line taken.
--     part_stopped    the part's cause and offset, where reading stopped
--     part_whole      the part's entries, where it did not
use Prim.Native.Nat.{ℕ, suc}
use mathlib.Core.Path.{◌≡◌, refl, ap, sym, ◌∙◌}
use mathlib.Core.List.{List, [], ◌∷◌, ◌++◌}
use Rattle.std.specs.Prelude.{Ok, Err}
use Rattle.causes.specs.declared.Refusal.{Refusal}
use Rattle.job_part.specs.Part.{Form, Lines, whole, stopped, part_lines}
use Rattle.job_part.specs.Internal.Entries.{taken_lines, taken_part, end_of, PartRead}
use Rattle.job_part.proofs.Parts.{lines_end, lines_taken}
use Rattle.job_part.proofs.Kept.{Taken, taken_is, keep}

module _ {A : Type 0} (form : Form A) (end : ℕ) (bytes : List ℕ) where
  -- The entries so far and the bytes left give what the part gives.
  abbrev Same : ℕ → List A → List ℕ → Type 0
  Same left earlier rest = taken_lines form left earlier rest ≡ taken_part form bytes

  taken_whole : (xs : List A) → part_lines form end bytes ≡ whole xs → taken_part form bytes ≡ xs
  unfolding part_lines taken_part
  taken_whole xs e =
      let last = keep form Same step end form.most [] bytes xs e refl in
      sym last.1 ∙ (lines_end form end last.0 xs).1
    where
      step :
          (left : ℕ) (earlier : List A) (b : ℕ) (here : List ℕ) (x : A) (rest : List ℕ) →
          Same (suc left) earlier (b ∷ here) →
          Taken form earlier (b ∷ here) x rest →
          Same left (earlier ++ (x ∷ [])) rest
      step left earlier b here x rest same t =
          sym (lines_taken form end earlier (b ∷ here) refl left x rest (taken_is form earlier (b ∷ here) x rest t)).1 ∙ same

  module _ (xs : List A) where
    pub part_stopped :
        (r : Refusal) → PartRead form end bytes xs (Err r) → part_lines form end bytes ≡ stopped r.cause r.offset
    part_stopped r read = go (part_lines form end bytes) read.end_is
      where
        go : (d : Lines A) → Err r ≡ end_of d → d ≡ stopped r.cause r.offset
        go (whole ys) e = cc
        go (stopped cause offset) e =
            let same : r ≡ record { cause = cause; offset = offset } = cc in
            rw same

    pub part_whole : PartRead form end bytes xs (Ok tt) → part_lines form end bytes ≡ whole xs
    part_whole read = go (part_lines form end bytes) refl read.end_is
      where
        go : (d : Lines A) → part_lines form end bytes ≡ d → Ok tt ≡ end_of d → d ≡ whole xs
        go (whole ys) q e = ap (λ (zs : List A). whole zs) (sym (read.entries_are ∙ taken_whole ys q))
        go (stopped cause offset) q e = cc
