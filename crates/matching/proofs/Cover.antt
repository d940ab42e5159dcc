-- Why no way to give glasses beats one that a search has ended with. Of panes that can have none but some glasses, a matching serves no
-- more than these have sheets. The search ends with glasses of which it serves just so many panes, and all panes that can have another.
--     Closed         what a search that has ended leaves
--     served_le      what a matching serves, by some glasses and some panes that can have none but these
--     served_less    it is less where a pane is left over that is none of those
--     served_all     a closed search serves as many
--     greatest_of    so its matching is a greatest
use Prim.Native.Nat.{ℕ, ◌+◌, ◌≤◌, ◌<◌}
use mathlib.Core.Path.{◌≡◌, refl}
use mathlib.Core.Bool.{Bool, true, false, not, ◌&&◌, ◌||◌}
use native.Mathlib.Omega.{arith}
use lib.Dec.{ltb}
use borrow.Author.Tests.{ltb-true, ltb-false, le-ltb}
use Rattle.std.specs.Prelude.{if◌then◌else◌}
use Rattle.ranges.specs.Ranges.{sum_to}
use Rattle.ranges.specs.Internal.Counts.{one, count_to}
use Rattle.ranges.proofs.Sums.{sum_le, sum_less, sum_add, sum_le_some}
use Rattle.ranges.proofs.Counts.{one_le, count_not, count_by}
use Rattle.ranges.proofs.All.{all_at}
use Rattle.matching.specs.Internal.Matching.{Task, given, served, Matching, confined, sheets_of, Greatest}

-- What a search that has ended leaves: some glasses, all of whose sheets are given, such that every pane that has one of them,
-- and every pane that has none, can have no other.
pub record Closed (t : Task) (glass_of : ℕ → ℕ) (tight : ℕ → Bool) : Type 0 where
  pub all_given : (g : ℕ) → g < t.glasses → tight g ≡ true → given t glass_of g ≡ t.sheets g
  pub holders :
      (p : ℕ) → p < t.panes → glass_of p < t.glasses → tight (glass_of p) ≡ true → confined t tight p ≡ true
  pub left_over : (p : ℕ) → p < t.panes → (glass_of p < t.glasses → ⊥) → confined t tight p ≡ true

-- A glass that passes for a confined pane is one of them.
confined_at :
    (t : Task) (some : ℕ → Bool) (p g : ℕ) → confined t some p ≡ true → g < t.glasses → t.passes p g ≡ true → some g ≡ true
confined_at t some p g all l pass = rw pass at (all_at (λ h. not (t.passes p h) || some h) t.glasses all g l)

-- Some glasses, and a test that tells some panes.
module _ (t : Task) (some : ℕ → Bool) (way : ℕ → ℕ) (test : ℕ → Bool) where
  -- How many panes are given one of the glasses.
  abbrev given_of : ℕ
  given_of = sum_to (λ g. if some g then given t way g else 0) t.glasses

  -- What a pane counts: 1 if it is given one of them, and 1 if it fails the test.
  abbrev share : ℕ → ℕ
  share p = one (ltb (way p) t.glasses && some (way p)) + one (not (test p))

  -- What the panes count together.
  by_pane : sum_to share t.panes + count_to test t.panes ≡ given_of + t.panes
  by_pane =
      omega (
        arith,
        sum_add (λ p. one (ltb (way p) t.glasses && some (way p))) (λ p. one (not (test p))) t.panes,
        count_by some way t.panes t.glasses,
        count_not test t.panes,
      )

  module _ (w : Matching t way) (within : (p : ℕ) → p < t.panes → test p ≡ true → confined t some p ≡ true) where
    stock : given_of ≤ sheets_of t some
    stock = sum_le_some some (given t way) t.sheets t.glasses (λ g l is. w.in_stock g l)

    served_le_share : (p : ℕ) → p < t.panes → one (ltb (way p) t.glasses) ≤ share p
    served_le_share p l = go (ltb (way p) t.glasses) (test p) refl refl
      where
        go :
            (a c : Bool) → ltb (way p) t.glasses ≡ a → test p ≡ c →
            one a ≤ one (a && some (way p)) + one (not c)
        go false c has is = omega arith
        go true false has is = omega arith
        go true true has is =
            let k = ltb-true (way p) t.glasses has in
            rw (confined_at t some p (way p) (within p l is) k (w.passing p l k)) (omega arith)

    pub served_le : served t way + count_to test t.panes ≤ sheets_of t some + t.panes
    served_le = omega (arith, by_pane, stock, sum_le (λ p. one (ltb (way p) t.glasses)) share t.panes served_le_share)

    pub served_less :
        (p : ℕ) → p < t.panes → t.glasses ≤ way p → test p ≡ false →
        served t way + count_to test t.panes < sheets_of t some + t.panes
    served_less p l none out =
        let counts_more : one (ltb (way p) t.glasses) < share p = rw (le-ltb (way p) t.glasses none, out) (omega arith) in
        omega (
          arith,
          by_pane,
          stock,
          sum_less (λ q. one (ltb (way q) t.glasses)) share t.panes p l served_le_share counts_more,
        )

pub served_all :
    (t : Task) (some : ℕ → Bool) (way : ℕ → ℕ) → Closed t way some →
    sheets_of t some + t.panes ≤ served t way + count_to (confined t some) t.panes
served_all t some way c =
    omega (
      arith,
      by_pane t some way (confined t some),
      sum_le (share t some way (confined t some)) (λ p. one (ltb (way p) t.glasses)) t.panes share_le_served,
      stock,
    )
  where
    stock : sheets_of t some ≤ given_of t some way (confined t some)
    stock = sum_le_some some t.sheets (given t way) t.glasses (λ g l is. omega (arith, c.all_given g l is))

    share_le_served : (p : ℕ) → p < t.panes → share t some way (confined t some) p ≤ one (ltb (way p) t.glasses)
    share_le_served p l = go (ltb (way p) t.glasses) (some (way p)) refl refl
      where
        go :
            (a b : Bool) → ltb (way p) t.glasses ≡ a → some (way p) ≡ b →
            one (a && b) + one (not (confined t some p)) ≤ one a
        go false b has is = rw (c.left_over p l (λ k. omega (arith, ltb-false (way p) t.glasses has))) (omega arith)
        go true true has is = rw (c.holders p l (ltb-true (way p) t.glasses has) is) (omega arith)
        go true false has is = omega (arith, one_le (not (confined t some p)) true (λ e. refl))

pub greatest_of :
    (t : Task) (tight : ℕ → Bool) (glass_of : ℕ → ℕ) → Matching t glass_of →
    ((p : ℕ) → p < t.panes → glass_of p ≤ t.glasses) → Closed t glass_of tight →
    (served t glass_of ≡ t.panes → (g : ℕ) → tight g ≡ false) → Greatest t glass_of tight
greatest_of t tight glass_of w or_none c none_tight = record {
  matching = w;
  or_none = or_none;
  none_to_spare = λ p l e g k pass.
      c.all_given g k (confined_at t tight p g (c.left_over p l (λ has. omega arith)) k pass);
  greatest = λ other w'. omega (arith, most other w', all);
  shortage = omega (arith, most glass_of w, all);
  none_tight = none_tight;
}
  where
    most :
        (way : ℕ → ℕ) → Matching t way →
        served t way + count_to (confined t tight) t.panes ≤ sheets_of t tight + t.panes
    most way is = served_le t tight way (confined t tight) is (λ p l e. e)

    all : sheets_of t tight + t.panes ≤ served t glass_of + count_to (confined t tight) t.panes
    all = served_all t tight glass_of c
