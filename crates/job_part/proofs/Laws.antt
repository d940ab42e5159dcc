-- What the entries of a part keep that is read whole: what each line keeps, the list keeps.
--     part_rules    the entries that a part reads as keep the part's rules
--     ids_at        no two of them have one id
use Prim.Native.Nat.{ℕ, suc, ◌+◌, ◌≤◌, ◌<◌}
use mathlib.Core.Path.{◌≡◌, sym, ◌∙◌}
use mathlib.Core.List.{List, [], ◌∷◌, ◌++◌, map, map-append}
use native.Mathlib.Omega.{arith}
use lib.ListN.{length, get_or, length-append, get_or-map, length-map}
use Rattle.job_part.specs.Part.{Form, whole, part_lines}
use Rattle.ids.specs.Ids.{Distinct}
use Rattle.job_part.specs.Rules.{Every, PartRules}
use Rattle.ids.proofs.Distinct.{distinct_snoc, distinct_at}
use Rattle.job_part.proofs.Lists.{every_snoc}
use Rattle.job_part.proofs.Kept.{Taken, keep}

module _ {A : Type 0} (form : Form A) where
  -- What a part's entries keep while `left` more lines may begin.
  record SoFar (left : ℕ) (xs : List A) : Type 0 where
    at_most : length xs + left ≤ form.most
    allowed : Every form.allowed xs
    distinct : Distinct (map form.id xs)

  pub part_rules :
      (end : ℕ) (bytes : List ℕ) (xs : List A) → part_lines form end bytes ≡ whole xs → PartRules form xs
  unfolding part_lines Every Distinct
  part_rules end bytes xs e =
      let last = keep form (λ left xs bytes. SoFar left xs) step end form.most [] bytes xs e
      (record { at_most = omega arith; allowed = tt; distinct = tt }) in
      let kept : SoFar last.0 xs = last.1 in
      record {
        at_most = omega (arith, kept.at_most);
        allowed = kept.allowed;
        distinct = kept.distinct;
      }
    where
      step :
          (left : ℕ) (xs : List A) (b : ℕ) (bytes : List ℕ) (x : A) (rest : List ℕ) →
          SoFar (suc left) xs → Taken form xs (b ∷ bytes) x rest → SoFar left (xs ++ (x ∷ []))
      step left xs b bytes x rest h t = record {
        at_most = simp length-append (omega (arith, h.at_most));
        allowed = every_snoc form.allowed xs x h.allowed t.allowed;
        distinct =
            rw (map-append form.id xs (x ∷ []))
            (distinct_snoc (map form.id xs) (form.id x) h.distinct t.new);
      }

  pub ids_at :
      (blank : A) (xs : List A) (i j : ℕ) →
      form.id blank ≡ 0 →
      PartRules form xs → i < j → j < length xs → form.id (get_or xs i blank) ≡ form.id (get_or xs j blank) → ⊥
  ids_at blank xs i j none rules l k e =
      distinct_at (map form.id xs) i j rules.distinct l (rw length-map k) (sym (at i) ∙ e ∙ at j)
    where
      at : (i : ℕ) → form.id (get_or xs i blank) ≡ get_or (map form.id xs) i 0
      at i = sym (get_or-map form.id xs i blank) ∙ rw none
