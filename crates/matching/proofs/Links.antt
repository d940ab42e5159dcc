-- The links of a chain of moves: no two panes are moved to one glass, and at most 64 are moved. Each link goes to an unseen glass
-- and marks it, so the rest of the chain goes to others, of which there are fewer.
--     moved_unseen             a pane that was moved has an unseen glass
--     none_moved               no pane was moved where the list is as it was,
--     none_twice, few_none     so none to a glass twice, and they are none in number
--     few_more                 one link more moves at most one pane more,
--     twice_more               and none to a glass twice, where the glass is new to the chain
--     at_most_64               a chain moves at most 64 panes
use Prim.Native.Nat.{ℕ, ◌+◌, ◌≤◌, ◌<◌}
use mathlib.Core.Path.{◌≡◌, refl, ap, sym, ◌∙◌}
use mathlib.Core.Logic.{◌⊎◌, inl, inr}
use mathlib.Core.Bool.{true, false, not}
use mathlib.Core.List.{List}
use Rattle.std.specs.Prelude.{Option, Some}
use Rattle.std.proofs.lemmas.Bool.{cases_eq}
use native.Mathlib.Omega.{arith}
use lib.Dec.{eqb}
use lib.ListN.{length, set}
use borrow.Author.Tests.{eq-eqb}
use Rattle.ranges.specs.Internal.Counts.{one, count_to}
use Rattle.basics.proofs.Tests.{differ}
use Rattle.ranges.proofs.Sums.{sum_at}
use Rattle.ranges.proofs.Counts.{one_le, count_none}
use Rattle.glass_set.proofs.Members.{unvisited_most}
use Rattle.matching.specs.Internal.Rows.{way_of}
use Rattle.matching.specs.Internal.Steps.{Unseen, Move, stays, moves, is_moved, NoGlassTwice, Chain}
use Rattle.matching.proofs.Ways.{way_here, way_there}

-- A pane with the glass that it had was not moved.
not_moved : (before after : List (Option ℕ)) (p : ℕ) → way_of after p ≡ way_of before p → is_moved before after p ≡ false
not_moved before after p same = ap not (eq-eqb (way_of after p) (way_of before p) same)

pub moved_unseen :
    {Leaves : Type 0} (rows : List ℕ) (before after : List (Option ℕ)) (seen p : ℕ) → is_moved before after p ≡ true →
    Move rows before after seen p Leaves → Unseen seen (way_of after p)
moved_unseen rows before after seen p moved (stays same) = differ moved (not_moved before after p same)
moved_unseen rows before after seen p moved (moves from to passes) = to

-- No pane was moved where the list is as it was.
module _ (held : List (Option ℕ)) where
  pub none_moved : (p : ℕ) → is_moved held held p ≡ true → ⊥
  none_moved p moved = differ moved (not_moved held held p refl)

  pub none_twice : (n : ℕ) → NoGlassTwice held held n
  none_twice n p q l k moved = absurd (none_moved p moved)

  pub few_none : (n : ℕ) → count_to (is_moved held held) n ≡ 0
  few_none n = count_none (is_moved held held) n (λ p l. not_moved held held p refl)

-- One link more: a pane is given a glass where a chain has been.
module _ (before mid : List (Option ℕ)) (pane glass n : ℕ) where
  -- Another pane was moved where it had been.
  others : (p : ℕ) → (p ≡ pane → ⊥) → is_moved before (set mid pane (Some glass)) p ≡ is_moved before mid p
  others p other = ap (λ (g : ℕ). not (eqb g (way_of before p))) (way_there mid pane p glass other)

  pub few_more : pane < n → count_to (is_moved before (set mid pane (Some glass))) n ≤ count_to (is_moved before mid) n + 1
  few_more l =
      let after = is_moved before (set mid pane (Some glass)) in
      omega (
        arith,
        sum_at (λ p. one (after p)) (λ p. one (is_moved before mid p)) n pane l (λ p k other. ap one (others p other)),
        one_le (after pane) true (λ e. refl),
      )

  -- No pane that the chain moved has the glass.
  module _ (below : glass < 64) (long : pane < length mid) (twice : NoGlassTwice before mid n)
      (fresh : (p : ℕ) → p < n → is_moved before mid p ≡ true → way_of mid p ≡ glass → ⊥) where
    pub twice_more : NoGlassTwice before (set mid pane (Some glass)) n
    twice_more p q l k moved moved' same = go (cases_eq p pane) (cases_eq q pane)
      where
        there : (p : ℕ) → (p ≡ pane → ⊥) → way_of (set mid pane (Some glass)) p ≡ way_of mid p
        there p other = way_there mid pane p glass other

        here : (p : ℕ) → p ≡ pane → way_of (set mid pane (Some glass)) p ≡ glass
        here p e = rw e (way_here mid pane glass below long)

        go : (p ≡ pane) ⊎ (p ≡ pane → ⊥) → (q ≡ pane) ⊎ (q ≡ pane → ⊥) → p ≡ q
        go (inl e) (inl f) = e ∙ sym f
        go (inl e) (inr other) =
            absurd (fresh q k (sym (others q other) ∙ moved') (sym (there q other) ∙ sym same ∙ here p e))
        go (inr other) (inl f) = absurd (fresh p l (sym (others p other) ∙ moved) (sym (there p other) ∙ same ∙ here q f))
        go (inr e) (inr f) =
            twice p q l k (sym (others p e) ∙ moved) (sym (others q f) ∙ moved') (sym (there p e) ∙ same ∙ there q f)

-- A chain has at most 64 links: document 01, "The placing".
pub at_most_64 :
    {Leaves : ℕ → Type 0} (rows : List ℕ) (before after : List (Option ℕ)) (spare seen from last : ℕ) →
    Chain rows before after spare seen from last Leaves → count_to (is_moved before after) (length rows) ≤ 64
at_most_64 rows before after spare seen from last chain = omega (arith, chain.few, unvisited_most seen)
