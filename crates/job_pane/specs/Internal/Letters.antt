-- What reading a line of one of the part's letters promises.
use Rattle.std.specs.Prelude.{ℕ, List}
use Rattle.job_line.specs.Bytes.{Found, found, nothing}
use Rattle.job_line.specs.Line.{line, only}
use Rattle.job_pane.specs.PaneLine.{pane_of}
use Rattle.job_pane.specs.declared.Pane.{Pane}

-- What the line of this letter at the front of some bytes says, and the bytes after it.
unfoldable pub letter_line : (letter : ℕ) (bytes : List ℕ) → Found Pane
letter_line letter bytes =
    elim (line (only letter) 9 bytes) [
      | found ns rest ↦ found (pane_of letter ns) rest
      | nothing ↦ nothing
    ]
