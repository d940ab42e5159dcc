-- What reading a part promises: what stands on a line, the entries of the part before its first fault, and how the part ends.
use Rattle.std.specs.Prelude.{ℕ, zero, suc, ◌≡◌, List, [], ◌∷◌, ◌++◌, map, Result, Ok, Err, if◌then◌else◌}
use Rattle.std.specs.Borrow.{Bor}
use Rattle.causes.specs.declared.Refusal.{Refusal}
use Rattle.job_line.specs.Bytes.{next, Found, found, nothing}
use Rattle.job_line.specs.Line.{line}
use Rattle.job_part.specs.Part.{Form, Judged, taken, faulty, judged, Lines, whole, stopped, is_empty, part_lines}

-- What the line at the front of some bytes says, whatever its numbers are, and the bytes after it.
unfoldable pub entry_at : {A : Type 0} (form : Form A) (bytes : List ℕ) → Found A
entry_at form bytes =
    elim (line form.takes form.count bytes) [
      | found ns rest ↦ found (form.entry (next bytes) ns) rest
      | nothing ↦ nothing
    ]

-- What judging a line answers, in the words of the definitions.
abbrev pub as_judged : {A : Type 0} → Result (A × Bor (List ℕ)) Refusal → Judged A
as_judged (Ok line) = taken line.0 line.1.now
as_judged (Err refusal) = faulty refusal.cause

-- What the lines say that are taken, up to the first at fault, of a part of which `bytes` are still to be read. `earlier` is what the
-- lines already read say, and `left` is how many more may begin.
unfoldable pub taken_lines : {A : Type 0} (form : Form A) (left : ℕ) (earlier : List A) (bytes : List ℕ) → List A
taken_lines form zero earlier bytes = earlier
taken_lines form (suc left) earlier bytes =
    if is_empty bytes then earlier
    else elim (judged form (map form.id earlier) bytes) [
      | taken x rest ↦ taken_lines form left (earlier ++ (x ∷ [])) rest
      | faulty cause ↦ earlier
    ]

-- The same of a part from its first line on.
unfoldable pub taken_part : {A : Type 0} (form : Form A) (bytes : List ℕ) → List A
taken_part form bytes = taken_lines form form.most [] bytes

-- How reading ends: well, or with the first cause and its offset.
abbrev pub end_of : {A : Type 0} → Lines A → Result Unit Refusal
end_of (whole xs) = Ok tt
end_of (stopped cause offset) = Err (record { cause = cause; offset = offset })

-- A part that ends at the file's offset `end` was read: the entries before the first fault, whether the part is whole or not, and how it
-- ends.
pub record PartRead {A : Type 0} (form : Form A) (end : ℕ) (bytes : List ℕ) (xs : List A) (r : Result Unit Refusal) : Type 0 where
  pub entries_are : xs ≡ taken_part form bytes
  pub end_is : r ≡ end_of (part_lines form end bytes)
