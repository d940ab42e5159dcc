-- The pane at the front of some bytes, by the line that is there.
--     line_found, line_missing    a line of a letter says a pane, or there is none
--     p_line, q_line              what the line of either letter says, the bytes say
--     no_pane_line                no line of either letter: no pane
use Prim.Native.Nat.{ℕ}
use mathlib.Core.Path.{◌≡◌, refl, sym, subst⁻¹, ◌∙◌}
use mathlib.Core.Bool.{true}
use mathlib.Core.Logic.{⊎_elim}
use mathlib.Core.List.{List}
use lib.Dec.{T, eqb, eqb→eq}
use Rattle.basics.proofs.Tests.{one_of}
use Rattle.job_line.specs.Bytes.{letter_p, letter_q, Found, found, nothing}
use Rattle.job_line.specs.Line.{line, only}
use Rattle.job_part.specs.Internal.Entries.{entry_at}
use Rattle.job_part.proofs.Judging.{letter_entry, no_letter}
use Rattle.job_pane.specs.PaneLine.{takes_pane, pane_of, pane_form}
use Rattle.job_pane.specs.Internal.Letters.{letter_line}
use Rattle.job_pane.specs.declared.Pane.{Pane}

module _ (letter : ℕ) (bytes : List ℕ) where
  pub line_found :
      (ns rest : List ℕ) → found ns rest ≡ line (only letter) 9 bytes → found (pane_of letter ns) rest ≡ letter_line letter bytes
  unfolding letter_line
  line_found ns rest one = rw (letter_line, ← one)

  pub line_missing : nothing ≡ line (only letter) 9 bytes → nothing ≡ letter_line letter bytes
  unfolding letter_line
  line_missing none = rw (letter_line, ← none)

  -- what the line of a letter says, the bytes say
  says_line :
      (pane : Pane) (rest : List ℕ) → takes_pane letter ≡ true → found pane rest ≡ letter_line letter bytes →
      found pane rest ≡ entry_at pane_form bytes
  unfolding letter_line
  says_line pane rest known = go (line (only letter) 9 bytes) refl
    where
      go :
          (f : Found (List ℕ)) → line (only letter) 9 bytes ≡ f →
          found pane rest ≡ elim f [ found ns after ↦ found (pane_of letter ns) after | nothing ↦ nothing ] →
          found pane rest ≡ entry_at pane_form bytes
      go (found ns after) is e = e ∙ letter_entry pane_form bytes letter ns after known (sym is)
      go nothing is e = cc

  missing_line : nothing ≡ letter_line letter bytes → nothing ≡ line (only letter) 9 bytes
  unfolding letter_line
  missing_line = go (line (only letter) 9 bytes)
    where
      go :
          (f : Found (List ℕ)) →
          ◌≡◌ {A = Found Pane} nothing (elim f [ found ns after ↦ found (pane_of letter ns) after | nothing ↦ nothing ]) →
          nothing ≡ f
      go (found ns after) e = cc
      go nothing e = refl

pub ruleset by_line = (line_found, line_missing)

module _ (bytes : List ℕ) where
  pub p_line : (pane : Pane) (rest : List ℕ) → found pane rest ≡ letter_line letter_p bytes → found pane rest ≡ entry_at pane_form bytes
  p_line pane rest one = says_line letter_p bytes pane rest refl one

  pub q_line : (pane : Pane) (rest : List ℕ) → found pane rest ≡ letter_line letter_q bytes → found pane rest ≡ entry_at pane_form bytes
  q_line pane rest one = says_line letter_q bytes pane rest refl one

  pub no_pane_line : nothing ≡ letter_line letter_p bytes → nothing ≡ letter_line letter_q bytes → nothing ≡ entry_at pane_form bytes
  no_pane_line no_p no_q =
      no_letter pane_form bytes
      (λ letter known.
      ⊎_elim (λ e. rw e (missing_line letter_p bytes no_p)) (λ e. rw e (missing_line letter_q bytes no_q))
      (one_of letter letter_p (eqb letter letter_q) (eqb→eq letter letter_q) (subst⁻¹ T known tt)))

pub ruleset by_letter = (p_line, q_line, no_pane_line)
