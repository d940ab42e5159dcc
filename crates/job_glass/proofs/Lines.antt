-- The glass at the front of some bytes, by the line that is there.
--     glass_line       a line of the letter says a glass
--     no_glass_line    no line of the letter: no glass
use Prim.Native.Nat.{ℕ}
use mathlib.Core.Path.{◌≡◌, refl}
use mathlib.Core.List.{List}
use borrow.Author.Tests.{eqb-true}
use Rattle.job_line.specs.Bytes.{letter_g, found, nothing}
use Rattle.job_line.specs.Line.{line, only}
use Rattle.job_part.specs.Internal.Entries.{entry_at}
use Rattle.job_part.proofs.Judging.{letter_entry, no_letter}
use Rattle.job_glass.specs.GlassLine.{glass_of, glass_form}

module _ (bytes : List ℕ) where
  pub glass_line :
      (ns rest : List ℕ) → found ns rest ≡ line (only letter_g) 8 bytes → found (glass_of ns) rest ≡ entry_at glass_form bytes
  glass_line ns rest one = letter_entry glass_form bytes letter_g ns rest refl one

  pub no_glass_line : nothing ≡ line (only letter_g) 8 bytes → nothing ≡ entry_at glass_form bytes
  no_glass_line none = no_letter glass_form bytes (λ letter known. rw (eqb-true letter letter_g known) none)

pub ruleset by_letter = (glass_line, no_glass_line)
