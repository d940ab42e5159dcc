-- A line's entry, and its causes, by the tests that led to them.
--     letter_entry, no_letter   the entry of a line of one of the part's letters, and that no letter has a line
--     line_form                 no line: cause 4
--     number_value              an entry whose numbers are not allowed: cause 5
--     repeated_id               one whose id is that of an earlier line: cause 6
--     entry_taken               one that has neither cause is taken
--     by_tests                  these four
use Prim.Native.Nat.{ℕ}
use mathlib.Core.Path.{◌≡◌, refl, ap, sym, ◌∙◌}
use mathlib.Core.Bool.{Bool, true, false}
use mathlib.Core.List.{List, []}
use borrow.Author.Tests.{eqb-true, eq-eqb}
use lib.Dec.{eqb}
use Rattle.std.specs.Prelude.{if◌then◌else◌}
use Rattle.causes.specs.declared.Cause.TheVariants.{LineForm, NumberValue, RepeatedId}
use Rattle.job_line.specs.Bytes.{next, behind, Found, found, nothing}
use Rattle.job_line.specs.Line.{numbers, ended, line, only}
use Rattle.ids.specs.Ids.{among}
use Rattle.job_part.specs.Part.{Form, Judged, taken, faulty, judged_entry, judged}
use Rattle.job_part.specs.Internal.Entries.{entry_at}

module _ {A : Type 0} (form : Form A) (bytes : List ℕ) where
  -- what the numbers that were found say
  abbrev says : Found (List ℕ) → Found A
  says (found ns rest) = found (form.entry (next bytes) ns) rest
  says nothing = nothing

  pub letter_entry :
      (letter : ℕ) (ns rest : List ℕ) → form.takes letter ≡ true → found ns rest ≡ line (only letter) form.count bytes →
      found (form.entry letter ns) rest ≡ entry_at form bytes
  unfolding line entry_at
  letter_entry letter ns rest known = go (eqb (next bytes) letter) refl
    where
      go :
          (t : Bool) → eqb (next bytes) letter ≡ t →
          found ns rest ≡ (if t then ended (numbers form.count [] (behind bytes)) else nothing) →
          found (form.entry letter ns) rest ≡ entry_at form bytes
      go true is e =
          let same : next bytes ≡ letter = eqb-true (next bytes) letter is in
          rw (entry_at, same, known, ← e) (ap (λ (b : ℕ). found (form.entry b ns) rest) (sym same))
      go false is e = cc

  pub no_letter :
      ((letter : ℕ) → form.takes letter ≡ true → nothing ≡ line (only letter) form.count bytes) → nothing ≡ entry_at form bytes
  unfolding line entry_at
  no_letter none = go (form.takes (next bytes)) refl
    where
      go :
          (t : Bool) → form.takes (next bytes) ≡ t →
          nothing ≡ says (if t then ended (numbers form.count [] (behind bytes)) else nothing)
      go true is = ap says (rw (eq-eqb (next bytes) (next bytes) refl) at (none (next bytes) is))
      go false is = refl

  module _ (ids : List ℕ) where
    -- a line is judged by its entry
    judged_found : Found A → Judged A
    judged_found (found x rest) = judged_entry form ids x rest
    judged_found nothing = faulty LineForm

    judged_is : judged form ids bytes ≡ judged_found (entry_at form bytes)
    unfolding judged entry_at judged_found
    judged_is = go (line form.takes form.count bytes)
      where
        go : (f : Found (List ℕ)) → elim f [ found ns rest ↦ judged_entry form ids (form.entry (next bytes) ns) rest | nothing ↦ faulty LineForm ] ≡ judged_found (says f)
        go (found ns rest) = refl
        go nothing = refl

    pub line_form : nothing ≡ entry_at form bytes → faulty LineForm ≡ judged form ids bytes
    unfolding judged_found
    line_form none = ap judged_found none ∙ sym judged_is

    module _ (x : A) (rest : List ℕ) (read : found x rest ≡ entry_at form bytes) where
      entry_is : judged_entry form ids x rest ≡ judged form ids bytes
      unfolding judged_found
      entry_is = ap judged_found read ∙ sym judged_is

      pub number_value : form.allowed x ≡ false → faulty NumberValue ≡ judged form ids bytes
      unfolding judged_entry
      number_value bad = rw bad at entry_is

      pub repeated_id : form.allowed x ≡ true → among (form.id x) ids ≡ true → faulty RepeatedId ≡ judged form ids bytes
      unfolding judged_entry
      repeated_id good seen = rw (good, seen) at entry_is

      pub entry_taken : form.allowed x ≡ true → among (form.id x) ids ≡ false → taken x rest ≡ judged form ids bytes
      unfolding judged_entry
      entry_taken good new = rw (good, new) at entry_is

pub ruleset by_tests = (line_form, number_value, repeated_id, entry_taken)
