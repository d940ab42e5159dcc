-- A part that is written is read back, and a part that is read was written, for any form whose entries are their lines'
-- numbers: one line after the other.
--     Writer              a form, and the letter and the numbers that are written for an entry
--     written_part_lem    what is written for entries that keep the part's rules is read as those entries
--     part_read           what is read as entries is what is written for them
use Prim.Native.Nat.{ℕ, zero, suc, ◌≤◌}
use mathlib.Core.Path.{◌≡◌, refl, sym, ◌∙◌, ap}
use mathlib.Core.Bool.{true, false}
use mathlib.Core.List.{List, [], ◌∷◌, ◌++◌, append_assoc, append-nil, map, map-append}
use native.Mathlib.Omega.{arith}
use native.Mathlib.Nat.{le_of_suc-le-suc}
use lib.Dec.{T}
use lib.ListN.{length}
use Rattle.job_part.specs.Part.{Form, whole, lines, part_lines}
use Rattle.ids.specs.Ids.{Distinct}
use Rattle.job_part.specs.Rules.{Every, PartRules}
use Rattle.ids.proofs.Distinct.{distinct_new}
use Rattle.job_part.proofs.Kept.{Taken, taken_is, keep}
use Rattle.job_part.proofs.Parts.{lines_end}
use Rattle.job_grammar.specs.Written.{written_line, written_part}
use Rattle.job_grammar.proofs.Line.{Small, written_line_lem, line_read}

pub record Writer {A : Type 0} (form : Form A) (letter_of : A → ℕ) (numbers_of : A → List ℕ) : Type 0 where
  pub takes_letter : (x : A) → form.takes (letter_of x) ≡ true
  pub takes_no_zero : form.takes 0 ≡ false
  pub count_is : (x : A) → length (numbers_of x) ≡ form.count
  pub entry_of : (x : A) → form.entry (letter_of x) (numbers_of x) ≡ x
  pub letter_of_entry : (letter : ℕ) (ns : List ℕ) → form.takes letter ≡ true → letter_of (form.entry letter ns) ≡ letter
  pub of_entry : (letter : ℕ) (ns : List ℕ) → length ns ≡ form.count → numbers_of (form.entry letter ns) ≡ ns
  pub small : (x : A) → T (form.allowed x) → Small (numbers_of x)

-- The line that is written for an entry.
abbrev pub written_entry : {A : Type 0} → (A → ℕ) → (A → List ℕ) → A → List ℕ
written_entry letter_of numbers_of x = written_line (letter_of x) (numbers_of x)

module _ {A : Type 0} (written : A → List ℕ) where
  written_snoc :
      (xs : List A) (x : A) (rest : List ℕ) →
      written_part written (xs ++ (x ∷ [])) ++ rest ≡ written_part written xs ++ (written x ++ rest)
  unfolding written_part
  written_snoc [] x rest = rw append-nil
  written_snoc (y ∷ ys) x rest =
      append_assoc (written y) (written_part written (ys ++ (x ∷ []))) rest
      ∙ ap (λ l. written y ++ l) (written_snoc ys x rest)
      ∙ sym (append_assoc (written y) (written_part written ys) (written x ++ rest))

module _ {A : Type 0} (form : Form A) (letter_of : A → ℕ) (numbers_of : A → List ℕ)
    (writer : Writer form letter_of numbers_of) (end : ℕ) where
  written_taken :
      (earlier : List A) (x : A) (xs : List A) (rest : List ℕ) →
      T (form.allowed x) →
      Distinct (map form.id (earlier ++ (x ∷ xs))) →
      Taken form earlier (written_entry letter_of numbers_of x ++ rest) x rest
  unfolding written_line
  written_taken earlier x xs rest h apart = record {
    numbers = numbers_of x;
    read =
        rw (← writer.count_is x)
        (written_line_lem form.takes (letter_of x) (numbers_of x) rest (writer.takes_letter x) (writer.small x h));
    says = writer.entry_of x;
    allowed = h;
    new =
        distinct_new (map form.id earlier) (form.id x) (map form.id xs)
        (rw (map-append form.id earlier (x ∷ xs)) at apart);
  }

  written_lines :
      (left : ℕ) (earlier xs : List A) →
      length xs ≤ left →
      Every form.allowed xs →
      Distinct (map form.id (earlier ++ xs)) →
      lines form end left earlier (written_part (written_entry letter_of numbers_of) xs) ≡ whole (earlier ++ xs)
  unfolding lines written_part written_line Every
  written_lines left earlier [] l h apart = rw append-nil (lines_end form end left earlier).0
  written_lines zero earlier (x ∷ xs) l h apart = absurd (omega arith)
  written_lines (suc left) earlier (x ∷ xs) l h apart =
      let rest = written_part (written_entry letter_of numbers_of) xs in
      let together : (earlier ++ (x ∷ [])) ++ xs ≡ earlier ++ (x ∷ xs) = append_assoc earlier (x ∷ []) xs in
      let first = written_taken earlier x xs rest h.0 apart in
      rw (lines, taken_is form earlier (written_entry letter_of numbers_of x ++ rest) x rest first)
      (written_lines left (earlier ++ (x ∷ [])) xs (le_of_suc-le-suc l) h.1 (rw together apart)
      ∙ ap (λ l. whole l) together)

  pub written_part_lem :
      (xs : List A) →
      PartRules form xs →
      part_lines form end (written_part (written_entry letter_of numbers_of) xs) ≡ whole xs
  unfolding part_lines
  written_part_lem xs r = written_lines form.most [] xs r.at_most r.allowed r.distinct

  pub part_read :
      (bytes : List ℕ) (xs : List A) →
      part_lines form end bytes ≡ whole xs →
      bytes ≡ written_part (written_entry letter_of numbers_of) xs
  unfolding part_lines written_part
  part_read bytes xs e =
      sym (keep form Wrote step end form.most [] bytes xs e refl).1 ∙ append-nil _
    where
      written : A → List ℕ
      written = written_entry letter_of numbers_of

      -- What is written for the entries so far, and the bytes left, are the part.
      Wrote : ℕ → List A → List ℕ → Type 0
      Wrote left earlier rest = written_part written earlier ++ rest ≡ bytes

      step :
          (left : ℕ) (earlier : List A) (b : ℕ) (bytes : List ℕ) (x : A) (rest : List ℕ) →
          Wrote (suc left) earlier (b ∷ bytes) →
          Taken form earlier (b ∷ bytes) x rest →
          Wrote left (earlier ++ (x ∷ [])) rest
      step left earlier b bytes x rest w t =
          let r = line_read form.takes form.count (b ∷ bytes) t.numbers rest writer.takes_no_zero t.read in
          let letter : letter_of x ≡ b = rw (← t.says) (writer.letter_of_entry b t.numbers r.known) in
          let ns : numbers_of x ≡ t.numbers = rw (← t.says) (writer.of_entry b t.numbers r.many) in
          written_snoc written earlier x rest
          ∙ ap (λ l. written_part written earlier ++ l) (rw (letter, ns, ← r.were))
          ∙ w
