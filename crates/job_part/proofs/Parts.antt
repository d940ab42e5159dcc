-- The lines of a part, one after the other, for either form.
--     Reads        what the definitions give of the bytes from here on: how the part ends, and the entries that are taken
--     lines_end, lines_many, lines_faulty, lines_taken   that, by what comes next
--     Progress     the rest of the part is read from here on, behind entries that were taken; the set of ids has theirs
--     progress_begin, progress_taken                     where reading begins, and one line more
--     progress_many, progress_faulty, progress_end       how it ends
use Prim.Native.Nat.{ℕ, zero, suc, ◌+◌, ◌-◌, ◌≤◌, ◌<◌}
use mathlib.Core.Path.{◌≡◌, refl, ap, sym, ◌∙◌}
use mathlib.Core.Bool.{false}
use mathlib.Core.List.{List, [], ◌∷◌, ◌++◌, map, map-append}
use native.Mathlib.Omega.{arith}
use lib.Dec.{T}
use lib.ListN.{length, length-append}
use Rattle.std.specs.Prelude.{Ok, Err}
use Rattle.causes.specs.declared.Cause.{Cause}
use Rattle.causes.specs.declared.Cause.TheVariants.{TooManyLines}
use Rattle.causes.specs.declared.Refusal.{Refusal}
use Rattle.job_line.proofs.Shorter.{line_shorter}
use Rattle.ids.specs.declared.sets.IdSet.{IdSet}
use Rattle.ids.specs.Internal.IdSets.{SetOf}
use Rattle.job_part.specs.Part.{Form, taken, faulty, judged, Lines, whole, stopped, is_empty, lines, part_lines}
use Rattle.job_part.specs.Internal.Entries.{taken_lines, taken_part, end_of, PartRead}
use Rattle.job_part.proofs.Kept.{taken_was}

module _ {A : Type 0} (form : Form A) (end : ℕ) where
  abbrev pub Reads : (left : ℕ) (earlier : List A) (bytes : List ℕ) (d : Lines A) (xs : List A) → Type 0
  Reads left earlier bytes d xs = (lines form end left earlier bytes ≡ d) × (taken_lines form left earlier bytes ≡ xs)

  pub lines_end : (left : ℕ) (earlier : List A) → Reads left earlier [] (whole earlier) earlier
  unfolding lines taken_lines
  lines_end zero earlier = (refl, refl)
  lines_end (suc left) earlier = (refl, refl)

  -- A line begins where a byte is left.
  module _ (earlier : List A) (bytes : List ℕ) (begins : is_empty bytes ≡ false) where
    pub lines_many : Reads 0 earlier bytes (stopped TooManyLines (end - length bytes)) earlier
    unfolding lines taken_lines
    lines_many = (rw (lines, begins), refl)

    pub lines_faulty :
        (left : ℕ) (cause : Cause) →
        judged form (map form.id earlier) bytes ≡ faulty cause →
        Reads (suc left) earlier bytes (stopped cause (end - length bytes)) earlier
    unfolding lines taken_lines
    lines_faulty left cause e = (rw (lines, begins, e), rw (taken_lines, begins, e))

    pub lines_taken :
        (left : ℕ) (x : A) (rest : List ℕ) →
        judged form (map form.id earlier) bytes ≡ taken x rest →
        let longer : List A = earlier ++ (x ∷ []) in
        Reads (suc left) earlier bytes (lines form end left longer rest) (taken_lines form left longer rest)
    unfolding lines taken_lines
    lines_taken left x rest e = (rw (lines, begins, e), rw (taken_lines, begins, e))

module _ {A : Type 0} (form : Form A) (end : ℕ) (part : List ℕ) where
  pub record Progress (xs : List A) (seen : IdSet) (bytes : List ℕ) : Type 0 where
    pub rest : Reads form end (form.most - length xs) xs bytes (part_lines form end part) (taken_part form part)
    pub few : length xs ≤ form.most
    pub ids : SetOf seen (map form.id xs)
    pub inside : length bytes ≤ length part

  pub progress_begin : (seen : IdSet) → SetOf seen [] → Progress [] seen part
  unfolding part_lines taken_part
  progress_begin seen none =
      let all : form.most - 0 ≡ form.most = omega arith in
      record {
        rest = (rw all, rw all);
        few = omega arith;
        ids = none;
        inside = omega arith;
      }

  module _ (xs : List A) (seen : IdSet) (bytes : List ℕ) (progress : Progress xs seen bytes) where
    -- no line more is taken: the entries are those of the part
    ended : (d : Lines A) → Reads form end (form.most - length xs) xs bytes d xs → PartRead form end part xs (end_of d)
    ended d last = record {
      entries_are = sym last.1 ∙ progress.rest.1;
      end_is = ap end_of (sym last.0 ∙ progress.rest.0);
    }

    pub progress_end : length bytes ≡ 0 → PartRead form end part xs (Ok tt)
    progress_end none = go bytes none (λ (e : bytes ≡ []). ended (whole xs) (rw e (lines_end form end (form.most - length xs) xs)))
      where
        go : (rest : List ℕ) → length rest ≡ 0 → (rest ≡ [] → PartRead form end part xs (Ok tt)) → PartRead form end part xs (Ok tt)
        go [] none f = f refl
        go (b ∷ rest) none f = absurd (omega arith)

    -- where a byte is left a line begins
    begins : 0 < length bytes → is_empty bytes ≡ false
    begins some = go bytes some
      where
        go : (rest : List ℕ) → 0 < length rest → is_empty rest ≡ false
        go [] some = absurd (omega arith)
        go (b ∷ rest) some = refl

    pub progress_many :
        0 < length bytes → length xs ≡ form.most → PartRead form end part xs (Err (record { cause = TooManyLines; offset = end - length bytes }))
    progress_many more full =
        let none : form.most - length xs ≡ 0 = omega arith in
        ended (stopped TooManyLines (end - length bytes)) (rw none (lines_many form end xs bytes (begins more)))

    one_left : length xs < form.most → form.most - length xs ≡ suc (form.most - (length xs + 1))
    one_left more = omega arith

    pub progress_faulty :
        (refusal : Refusal) →
        0 < length bytes →
        length xs < form.most →
        faulty refusal.cause ≡ judged form (map form.id xs) bytes →
        refusal.offset ≡ end - length bytes →
        PartRead form end part xs (Err refusal)
    progress_faulty refusal more room fault at =
        ended (stopped refusal.cause refusal.offset)
        (rw (one_left room, at) (lines_faulty form end xs bytes (begins more) (form.most - (length xs + 1)) refusal.cause (sym fault)))

    pub progress_taken :
        (x : A) (rest : List ℕ) (longer : List A) (marked : IdSet) →
        0 < length bytes →
        length xs < form.most →
        taken x rest ≡ judged form (map form.id xs) bytes →
        longer ≡ xs ++ (x ∷ []) →
        SetOf marked (map form.id xs ++ (form.id x ∷ [])) →
        Progress longer marked rest
    progress_taken x rest longer marked more room line is ids =
        let long : length longer ≡ length xs + 1 = simp (is, length-append) (omega arith) in
        let left : ℕ = form.most - (length xs + 1) in
        let next = lines_taken form end xs bytes (begins more) left x rest (sym line) in
        let whole = rw (one_left room) at progress.rest in
        let read = taken_was form xs bytes x rest (sym line) in
        let shorter = line_shorter form.takes form.count bytes read.numbers rest read.read in
        record {
          rest = rw (long, is) (sym next.0 ∙ whole.0, sym next.1 ∙ whole.1);
          few = omega arith;
          ids = rw (is, map-append form.id xs (x ∷ [])) ids;
          inside = omega (arith, progress.inside);
        }

    -- what is taken has allowed values
    pub progress_allowed :
        (x : A) (rest : List ℕ) → taken x rest ≡ judged form (map form.id xs) bytes → T (form.allowed x)
    progress_allowed x rest line = (taken_was form xs bytes x rest (sym line)).allowed

pub ruleset by_lines = (progress_begin, progress_end, progress_many, progress_faulty, progress_taken, progress_allowed)
