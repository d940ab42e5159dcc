-- A line that is written is read back, and a line that is read was written: number after number, each behind a space, which
-- is no digit and so ends the number before it.
--     Small                 numbers up to 99999
--     written_line_lem      what is written for numbers up to 99999 is read as those numbers
--     LineWas, line_read    what is read as numbers is what is written for them, and they are as many as asked for
use Prim.Native.Nat.{ℕ, zero, suc, ◌≤◌, ◌<◌}
use mathlib.Core.Path.{◌≡◌, refl, sym, ◌∙◌, ap}
use mathlib.Core.Bool.{Bool, true, false}
use mathlib.Core.List.{List, [], ◌∷◌, ◌++◌, append_assoc, append-nil}
use native.Mathlib.Omega.{arith}
use lib.Dec.{leb, eqb, leb→le}
use lib.ListN.{length}
use borrow.Author.Tests.{eqb-true}
use Rattle.std.specs.Prelude.{if◌then◌else◌}
use Rattle.job_line.specs.Bytes.{newline, space, next, behind, Found, found, nothing}
use Rattle.job_line.specs.Number.{is_digit, number}
use Rattle.job_line.specs.Line.{numbers, ended, line}
use Rattle.job_part.specs.Rules.{Every}
use Rattle.job_line.specs.WrittenNumber.{written_number, written_numbers}
use Rattle.job_grammar.specs.Written.{written_line}
use Rattle.job_grammar.proofs.Numbers.{written_number_lem, number_read}

abbrev pub Small : List ℕ → Type 0
Small ns = Every (λ n. leb n 99999) ns

-- A byte other than 0 that comes next is the first of the bytes.
next_is : (b : ℕ) (bytes : List ℕ) → 0 < b → eqb (next bytes) b ≡ true → bytes ≡ b ∷ behind bytes
next_is b [] h e = absurd (omega (arith, eqb-true 0 b e))
next_is b (c ∷ bytes) h e = rw (eqb-true c b e)

-- No digit follows a number of a line.
no_digit : (ns rest : List ℕ) → is_digit (next (written_numbers ns ++ (newline ∷ rest))) ≡ false
unfolding written_numbers
no_digit [] rest = refl
no_digit (n ∷ ns) rest = refl

written_numbers_lem :
    (before ns rest : List ℕ) →
    Small ns →
    numbers (length ns) before (written_numbers ns ++ (newline ∷ rest)) ≡ found (before ++ ns) (newline ∷ rest)
unfolding written_numbers numbers Every
written_numbers_lem before [] rest h = rw append-nil
written_numbers_lem before (n ∷ ns) rest h =
    let small : n ≤ 99999 = leb→le n 99999 h.0 in
    let tail = written_numbers ns ++ (newline ∷ rest) in
    rw (append_assoc (written_number n) (written_numbers ns) (newline ∷ rest), written_number_lem n tail small (no_digit ns rest))
    (written_numbers_lem (before ++ (n ∷ [])) ns rest h.1 ∙ rw append_assoc)

pub written_line_lem :
    (takes : ℕ → Bool) (letter : ℕ) (ns rest : List ℕ) → takes letter ≡ true → Small ns →
    line takes (length ns) (written_line letter ns ++ rest) ≡ found ns rest
unfolding line ended written_line
written_line_lem takes letter ns rest known h =
    rw (known, append_assoc (written_numbers ns) (newline ∷ []) rest, written_numbers_lem [] ns rest h)

-- The numbers read behind those before them.
record NumbersRead (left : ℕ) (before bytes ns rest : List ℕ) : Type 0 where
  more : List ℕ
  behind : before ++ more ≡ ns
  count : length more ≡ left
  were : bytes ≡ written_numbers more ++ rest

numbers_read_lem :
    (left : ℕ) (before bytes ns rest : List ℕ) →
    numbers left before bytes ≡ found ns rest →
    NumbersRead left before bytes ns rest
unfolding numbers written_numbers
numbers_read_lem zero before bytes ns rest e = record { more = []; behind = append-nil before ∙ cc; count = refl; were = cc }
numbers_read_lem (suc left) before bytes ns rest e =
    go (λ n tail. numbers_read_lem left (before ++ (n ∷ [])) tail ns rest)
    (eqb (next bytes) space)
    (number (behind bytes))
    refl
    refl
    e
  where
    go :
        ((n : ℕ) (tail : List ℕ) → numbers left (before ++ (n ∷ [])) tail ≡ found ns rest →
        NumbersRead left (before ++ (n ∷ [])) tail ns rest) →
        (t : Bool) (f : Found ℕ) → eqb (next bytes) space ≡ t → number (behind bytes) ≡ f →
        (if t
        then elim f [
          | found n tail ↦ numbers left (before ++ (n ∷ [])) tail
          | nothing ↦ nothing
        ]
        else nothing) ≡ found ns rest →
        NumbersRead (suc left) before bytes ns rest
    go read true (found n tail) p q f =
        let r = read n tail f in
        record {
          more = n ∷ r.more;
          behind = sym (append_assoc before (n ∷ []) r.more) ∙ r.behind;
          count = ap suc r.count;
          were =
              next_is space bytes (omega arith) p
              ∙ ap (λ l. space ∷ l)
              (number_read (behind bytes) n tail q
              ∙ ap (λ l. written_number n ++ l) r.were
              ∙ sym (append_assoc (written_number n) (written_numbers r.more) rest));
        }
    go read true nothing p q f = cc
    go read false g p q f = cc

ended_read :
    (count : ℕ) (bytes ns rest : List ℕ) → ended (numbers count [] bytes) ≡ found ns rest →
    (bytes ≡ written_numbers ns ++ (newline ∷ rest)) × (length ns ≡ count)
unfolding ended
ended_read count bytes ns rest e = go (numbers count [] bytes) refl e
  where
    go :
        (f : Found (List ℕ)) → numbers count [] bytes ≡ f → ended f ≡ found ns rest →
        (bytes ≡ written_numbers ns ++ (newline ∷ rest)) × (length ns ≡ count)
    go nothing q f = cc
    go (found ms tail) q f = step (eqb (next tail) newline) refl f
      where
        step :
            (t : Bool) → eqb (next tail) newline ≡ t → (if t then found ms (behind tail) else nothing) ≡ found ns rest →
            (bytes ≡ written_numbers ns ++ (newline ∷ rest)) × (length ns ≡ count)
        step true p g =
            let r = numbers_read_lem count [] bytes ms tail q in
            let same : r.more ≡ ns = r.behind ∙ cc in
            let tail_is : tail ≡ newline ∷ rest = next_is newline tail (omega arith) p ∙ cc in
            (r.were ∙ rw (same, tail_is), rw same at r.count)
        step false p g = cc

-- A line that was read: its letter is one that is taken, and it was written with that letter and those numbers.
pub record LineWas (takes : ℕ → Bool) (count : ℕ) (bytes ns rest : List ℕ) : Type 0 where
  pub known : takes (next bytes) ≡ true
  pub were : bytes ≡ written_line (next bytes) ns ++ rest
  pub many : length ns ≡ count

-- A letter that is taken is the first of the bytes, where no byte 0 is taken.
letter_is :
    (takes : ℕ → Bool) (bytes : List ℕ) → takes 0 ≡ false → takes (next bytes) ≡ true → bytes ≡ next bytes ∷ behind bytes
letter_is takes [] none e = cc
letter_is takes (b ∷ bytes) none e = refl

pub line_read :
    (takes : ℕ → Bool) (count : ℕ) (bytes ns rest : List ℕ) →
    takes 0 ≡ false →
    line takes count bytes ≡ found ns rest →
    LineWas takes count bytes ns rest
unfolding line written_line
line_read takes count bytes ns rest none = go (takes (next bytes)) refl
  where
    go :
        (t : Bool) → takes (next bytes) ≡ t →
        (if t then ended (numbers count [] (behind bytes)) else nothing) ≡ found ns rest →
        LineWas takes count bytes ns rest
    go true p f =
        let r = ended_read count (behind bytes) ns rest f in
        record {
          known = p;
          were =
              letter_is takes bytes none p
              ∙ ap (λ l. next bytes ∷ l) (r.0 ∙ sym (append_assoc (written_numbers ns) (newline ∷ []) rest));
          many = r.1;
        }
    go false p f = cc
