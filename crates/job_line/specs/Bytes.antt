-- Bytes, and how a definition takes them one after the other from the front of a list.
use Rattle.std.specs.Prelude.{ℕ, List, [], ◌∷◌}
use Prim.Native.Char.{code}
use Prim.Native.String.{String}

-- The bytes that the format names.
abbrev pub newline : ℕ
newline = 10

abbrev pub space : ℕ
space = code " "

abbrev pub digit0 : ℕ
digit0 = code "0"

abbrev pub digit9 : ℕ
digit9 = code "9"

abbrev pub letter_g : ℕ
letter_g = code "G"

abbrev pub letter_p : ℕ
letter_p = code "P"

abbrev pub letter_q : ℕ
letter_q = code "Q"

abbrev pub letter_t : ℕ
letter_t = code "T"

-- The bytes of a text of plain characters.
abbrev pub bytes_of : String → List ℕ
bytes_of String.[] = []
bytes_of (String.◌∷◌ c s) = code c ∷ bytes_of s

-- The byte that comes next; 0, which is none of those above, where no byte is left.
abbrev pub next : List ℕ → ℕ
next [] = 0
next (b ∷ bytes) = b

-- The bytes after that one.
abbrev pub behind : List ℕ → List ℕ
behind [] = []
behind (b ∷ bytes) = bytes

-- What reading at the front of some bytes gives: what was found there and the bytes after it, or nothing.
pub data Found (A : Type 0) : Type 0 where
  found : A → List ℕ → Found A
  nothing : Found A
