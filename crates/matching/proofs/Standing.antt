-- How the placing of pane after pane stands: before the first pane, and that it is greatest after the last.
--     Suits              a pane has no glass, or one that passes for it
--     Held               a glass that is one of the 64 and in a set
--     Standing           how the placing stands when the panes below a number have had their turn
--     standing_first     before the first pane
--     standing_last      after the last pane the placing is a greatest one
use Prim.Native.Nat.{ℕ, ◌+◌, ◌≤◌, ◌<◌}
use mathlib.Core.Path.{◌≡◌, refl, ap, ◌∙◌}
use mathlib.Core.Logic.{◌⊎◌, inl, inr}
use mathlib.Core.Bool.{true}
use mathlib.Core.List.{List}
use Rattle.std.specs.Prelude.{Option, None}
use Rattle.std.proofs.lemmas.List.{get_or-replicate, length-replicate}
use native.Mathlib.Omega.{arith}
use lib.Dec.{ltb, eqb}
use lib.ListN.{length, get_or, replicate}
use borrow.Author.Tests.{ne_eqb, ltb-true}
use Rattle.ranges.specs.Internal.Counts.{one}
use Rattle.basics.proofs.Tests.{differ}
use Rattle.ranges.proofs.Sums.{sum_zero}
use Rattle.ranges.proofs.Counts.{count_all}
use Rattle.glass_set.specs.Internal.Member.{has, Within}
use Rattle.glass_set.proofs.Members.{has_none, within_of}
use Rattle.matching.specs.Internal.Matching.{Greatest}
use Rattle.matching.specs.Internal.Rows.{number_held, task_of, way_of}
use Rattle.matching.specs.Internal.Steps.{holding}
use Rattle.matching.proofs.Cover.{greatest_of}

abbrev pub Suits : (rows : List ℕ) (held : List (Option ℕ)) (p : ℕ) → Type 0
Suits rows held p = (way_of held p ≡ 64) ⊎ ((way_of held p < 64) × (has (get_or rows p 0) (way_of held p) ≡ true))

pub record Held (set g : ℕ) : Type 0 where
  pub below : g < 64
  pub in_set : has set g ≡ true

-- `left` has the sheets that are left of each glass. `tight` has glasses that no pane can leave: all their sheets are given, and
-- neither their holders nor the panes without a glass can have any other. It has none while every pane that had its turn has a
-- glass.
pub record Standing (rows sheets : List ℕ) (held : List (Option ℕ)) (left : List ℕ) (tight next : ℕ) : Type 0 where
  pub same_length : length held ≡ length rows
  pub all_glasses : length left ≡ 64
  pub counted : (g : ℕ) → g < 64 → holding rows held g + get_or left g 0 ≡ get_or sheets g 0
  pub suits : (p : ℕ) → p < length rows → Suits rows held p
  pub waiting : (p : ℕ) → next ≤ p → p < length rows → way_of held p ≡ 64
  pub all_given : (g : ℕ) → g < 64 → has tight g ≡ true → get_or left g 0 ≡ 0
  pub holders : (p : ℕ) → p < length rows → Held tight (way_of held p) → Within (get_or rows p 0) tight
  pub left_over : (p : ℕ) → p < next → p < length rows → way_of held p ≡ 64 → Within (get_or rows p 0) tight
  pub none_tight : ((p : ℕ) → p < next → p < length rows → way_of held p < 64) → tight ≡ 0

-- Before the first pane every entry is one that stands for no glass, and so no pane holds one.
module _ (rows : List ℕ) (entry : Option ℕ) (is_none : number_held entry ≡ 64) where
  abbrev nothing_held : List (Option ℕ)
  nothing_held = replicate (length rows) entry

  none : (p : ℕ) → p < length rows → way_of nothing_held p ≡ 64
  none p l = ap number_held (get_or-replicate (length rows) p entry None l) ∙ is_none

  none_holds : (g : ℕ) → g < 64 → holding rows nothing_held g ≡ 0
  none_holds g l =
      sum_zero (λ p. one (eqb (way_of nothing_held p) g)) (length rows)
      (λ p k. rw (none p k, ne_eqb 64 g (λ e. omega (arith, e))))

  pub standing_first : (sheets : List ℕ) → length sheets ≡ 64 → Standing rows sheets nothing_held sheets 0 0
  standing_first sheets all = record {
    same_length = length-replicate (length rows) entry;
    all_glasses = all;
    counted = λ g l. omega (arith, none_holds g l);
    suits = λ p l. inl (none p l);
    waiting = λ p k l. none p l;
    all_given = λ g l e. differ e (has_none g);
    holders = λ p l h. differ h.in_set (has_none (way_of nothing_held p));
    left_over = λ p l k e. absurd (omega arith);
    none_tight = λ all. refl;
  }

-- A pane's glass passes for it; it has one or none.
module _ (rows : List ℕ) (held : List (Option ℕ)) (p : ℕ) where
  passes : Suits rows held p → way_of held p < 64 → has (get_or rows p 0) (way_of held p) ≡ true
  passes (inl e) l = absurd (omega (arith, e))
  passes (inr h) l = h.1

  or_none : Suits rows held p → way_of held p ≤ 64
  or_none (inl e) = omega (arith, e)
  or_none (inr h) = omega (arith, h.0)

  without : Suits rows held p → (way_of held p < 64 → ⊥) → way_of held p ≡ 64
  without (inl e) none = e
  without (inr h) none = absurd (none h.0)

-- The tight glasses show that no other matching serves more.
pub standing_last :
    (rows sheets : List ℕ) (held : List (Option ℕ)) (left : List ℕ) (tight next : ℕ) → length rows ≤ next →
    Standing rows sheets held left tight next → Greatest (task_of rows sheets) (way_of held) (has tight)
standing_last rows sheets held left tight next end s =
    greatest_of (task_of rows sheets) (has tight) (way_of held)
    (record {
      passing = λ p l. passes rows held p (s.suits p l);
      in_stock = λ g l. omega (arith, s.counted g l);
    })
    (λ p l. or_none rows held p (s.suits p l))
    (record {
      all_given = λ g l e. omega (arith, s.counted g l, s.all_given g l e);
      holders = λ p l k e. within_of (get_or rows p 0) tight (s.holders p l (record { below = k; in_set = e }));
      left_over =
          λ p l none.
          within_of (get_or rows p 0) tight
          (s.left_over p (omega arith) l (without rows held p (s.suits p l) none));
    })
    (λ all g.
    let none =
    s.none_tight (λ p l k. ltb-true (way_of held p) 64 (count_all (λ q. ltb (way_of held q) 64) (length rows) all p k)) in
    rw none (has_none g))
