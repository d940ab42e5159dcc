-- A line, number after number. `Scanned` says that the rest of it is read from here on, behind the numbers that were read, which are
-- the first of an array.
--     line_other     bytes that do not begin with the letter are no line
--     scan_begin     behind the letter
--     scan_gap       no space next: no line
--     scan_missing   no number behind the space: no line
--     scan_more      one number more
--     scan_open      no newline behind the last number: no line
--     scan_end       the newline there
use Prim.Native.Nat.{ℕ, zero, suc, ◌+◌, ◌-◌, ◌≤◌, ◌<◌}
use mathlib.Core.Path.{◌≡◌, refl, ap, ◌∙◌}
use mathlib.Core.Bool.{Bool, true, false}
use mathlib.Core.List.{List, [], ◌∷◌}
use native.Mathlib.Omega.{arith}
use lib.Dec.{eqb}
use lib.ListN.{length, take, set, length-set}
use borrow.Author.Tests.{eq-eqb, ne_eqb}
use Rattle.std.proofs.lemmas.List.{take_all, take_more_set}
use Rattle.std.specs.Prelude.{if◌then◌else◌, ◌≢◌}
use Rattle.job_line.specs.Bytes.{next, found, nothing}
use Rattle.job_line.specs.Number.{number}
use Rattle.job_line.specs.Line.{numbers, ended, line, only}

-- Bytes that begin with no byte `b` do not have it next, where `b` is not 0.
other : (b : ℕ) (bytes : List ℕ) → 1 ≤ b → ((rest : List ℕ) → bytes ≢ b ∷ rest) → eqb (next bytes) b ≡ false
other b [] some none = ne_eqb 0 b (omega arith)
other b (x ∷ bytes) some none = ne_eqb x b (λ same. none bytes (ap (λ (y : ℕ). y ∷ bytes) same))

nothing_left : (count : ℕ) → nothing ≡ ended (numbers count [] [])
unfolding numbers ended
nothing_left zero = refl
nothing_left (suc count) = refl

pub line_other :
    (letter count : ℕ) (bytes : List ℕ) → ((rest : List ℕ) → bytes ≢ letter ∷ rest) → nothing ≡ line (only letter) count bytes
unfolding line
line_other letter count [] none = go (eqb 0 letter)
  where
    go : (t : Bool) → nothing ≡ (if t then ended (numbers count [] []) else nothing)
    go true = nothing_left count
    go false = refl
line_other letter count (x ∷ bytes) none =
    rw (ne_eqb x letter (λ same. none bytes (ap (λ (y : ℕ). y ∷ bytes) same)))

pub record Scanned (letter count : ℕ) (bytes values rest : List ℕ) (read : ℕ) : Type 0 where
  pub left : ended (numbers (count - read) (take read values) rest) ≡ line (only letter) count bytes
  pub room : length values ≡ count

module _ (letter count : ℕ) (bytes values : List ℕ) where
  pub scan_begin : (rest : List ℕ) → bytes ≡ letter ∷ rest → length values ≡ count → Scanned letter count bytes values rest 0
  unfolding line
  scan_begin rest is room =
      let whole : count - 0 ≡ count = omega arith in
      record { left = rw (whole, is, eq-eqb letter letter refl); room = room }

  module _ (rest : List ℕ) (read : ℕ) (scanned : Scanned letter count bytes values rest read) where
    one_left : read < count → count - read ≡ suc (count - (read + 1))
    one_left more = omega arith

    pub scan_gap : read < count → ((gap : List ℕ) → rest ≢ 32 ∷ gap) → nothing ≡ line (only letter) count bytes
    unfolding numbers ended
    scan_gap more none =
        rw (one_left more, other 32 rest (omega arith) none) at scanned.left

    pub scan_missing :
        (gap : List ℕ) → read < count → rest ≡ 32 ∷ gap → nothing ≡ number gap → nothing ≡ line (only letter) count bytes
    unfolding numbers ended
    scan_missing gap more is none = rw (one_left more, is, ← none) at scanned.left

    pub scan_more :
        (gap : List ℕ) (value : ℕ) (after : List ℕ) → read < count → rest ≡ 32 ∷ gap → found value after ≡ number gap →
        Scanned letter count bytes (set values read value) after (read + 1)
    unfolding numbers
    scan_more gap value after more is one =
        let room : read < length values = omega (arith, scanned.room) in
        record {
          left = rw take_more_set (rw (one_left more, is, ← one) at scanned.left);
          room = length-set values read value ∙ scanned.room;
        }

    none_left : count ≤ read → count - read ≡ 0
    none_left all = omega arith

    pub scan_open : count ≤ read → ((end : List ℕ) → rest ≢ 10 ∷ end) → nothing ≡ line (only letter) count bytes
    unfolding numbers ended
    scan_open all none = rw (none_left all, other 10 rest (omega arith) none) at scanned.left

    pub scan_end : (end : List ℕ) → count ≤ read → rest ≡ 10 ∷ end → found values end ≡ line (only letter) count bytes
    unfolding numbers ended
    scan_end end all is =
        let whole : length values ≤ read = omega (arith, scanned.room) in
        rw (none_left all, is, take_all) at scanned.left

pub ruleset by_parts = (line_other, scan_begin, scan_gap, scan_missing, scan_more, scan_open, scan_end)
