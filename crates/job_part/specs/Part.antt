-- Documents 01 and 02, "The job file" and "What each cause gives", rows 4, 5, 6 and 8: a part and its lines, which are judged one after the
-- other. The glass part and the pane part differ in what a `Form` has, and in nothing else.
use Rattle.std.specs.Prelude.{ℕ, zero, suc, ◌-◌, Bool, true, false, not, ◌&&◌, List, [], ◌∷◌, ◌++◌, map, leb, length, if◌then◌else◌}
use Rattle.causes.specs.declared.Cause.{Cause}
use Rattle.ids.specs.Ids.{among}
use Rattle.causes.specs.declared.Cause.TheVariants.{LineForm, NumberValue, RepeatedId, TooManyLines}
use Rattle.job_line.specs.Bytes.{next, found, nothing}
use Rattle.job_line.specs.Line.{line}

-- What the lines of a part are like. `A` is what one line says: a glass or a pane.
pub record Form (A : Type 0) : Type 0 where
  -- the letters that a line may begin with, and how many numbers follow
  pub takes : (letter : ℕ) → Bool
  pub count : ℕ
  -- what a line of this letter with these numbers says, and its id
  pub entry : (letter : ℕ) (numbers : List ℕ) → A
  pub id : A → ℕ
  -- each number is among its allowed values
  pub allowed : A → Bool
  -- how many lines the part may have
  pub most : ℕ

-- A number from one bound to another, both included.
abbrev pub between : (low high n : ℕ) → Bool
between low high n = leb low n && leb n high

-- A line: what it says and the bytes after it, or its cause.
pub data Judged (A : Type 0) : Type 0 where
  taken : A → List ℕ → Judged A
  faulty : Cause → Judged A

-- A line of the right form: cause 5, and then 6. `ids` are those of the earlier lines, and `rest` the bytes after it.
unfoldable pub judged_entry : {A : Type 0} (form : Form A) (ids : List ℕ) (x : A) (rest : List ℕ) → Judged A
judged_entry form ids x rest =
    if not (form.allowed x) then faulty NumberValue
    else if among (form.id x) ids then faulty RepeatedId
    else taken x rest

-- The line at the front of some bytes: cause 4, and then the others.
unfoldable pub judged : {A : Type 0} (form : Form A) (ids bytes : List ℕ) → Judged A
judged form ids bytes =
    elim (line form.takes form.count bytes) [
      | found ns rest ↦ judged_entry form ids (form.entry (next bytes) ns) rest
      | nothing ↦ faulty LineForm
    ]

-- A part: what its lines say, in file order, or the first cause and its offset in the file.
pub data Lines (A : Type 0) : Type 0 where
  whole : List A → Lines A
  stopped : Cause → ℕ → Lines A

-- Whether no byte is left.
abbrev pub is_empty : List ℕ → Bool
is_empty [] = true
is_empty (b ∷ bytes) = false

-- The lines of a part, of which `bytes` are still to be read. `earlier` is what the lines already read say, and `left` is how many more
-- may begin. Where no byte is left, the part is whole. Else a line begins, which has cause 8 if no more may, and is judged otherwise.
-- The part ends at the file's offset `end`, so the offset of a line is `end` less the number of bytes from the line on.
unfoldable pub lines : {A : Type 0} (form : Form A) (end left : ℕ) (earlier : List A) (bytes : List ℕ) → Lines A
lines form end zero earlier bytes =
    if is_empty bytes then whole earlier
    else stopped TooManyLines (end - length bytes)
lines form end (suc left) earlier bytes =
    if is_empty bytes then whole earlier
    else elim (judged form (map form.id earlier) bytes) [
      | taken x rest ↦ lines form end left (earlier ++ (x ∷ [])) rest
      | faulty cause ↦ stopped cause (end - length bytes)
    ]

-- A part from its first line on, which ends at the file's offset `end`.
unfoldable pub part_lines : {A : Type 0} (form : Form A) (end : ℕ) (bytes : List ℕ) → Lines A
part_lines form end bytes = lines form end form.most [] bytes
