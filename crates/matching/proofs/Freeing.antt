-- The ways through `free`: what the calls of `serve` leave is what `free` leaves.
--     free_moved     a holder has moved
--     Passed         what is known of the panes that were passed
--     passed_on      the next holder can't move, and is passed too
--     passed_all     there is no next holder
use Prim.Native.Nat.{ℕ, ◌+◌, ◌≤◌, ◌<◌}
use mathlib.Core.Path.{◌≡◌}
use mathlib.Core.Logic.{◌⊎◌, inl, inr}
use mathlib.Core.List.{List}
use Rattle.std.specs.Prelude.{Option}
use native.Mathlib.Omega.{arith}
use lib.ListN.{length, get_or}
use Rattle.std.specs.Prelude.{None}
use Rattle.std.proofs.lemmas.Bool.{cases_lt}
use Rattle.glass_set.specs.Internal.Member.{Within}
use Rattle.glass_set.proofs.Members.{within_trans, unvisited_le}
use Rattle.basics.proofs.Tests.{one_more}
use Rattle.matching.specs.Internal.Rows.{way_of}
use Rattle.matching.specs.Internal.Holders.{NoneBefore, Holder}
use Rattle.matching.specs.Internal.Steps.{Unseen, Grown, Move, stays, moves, Served, NotServed, Freed}
use Rattle.matching.proofs.Ways.{held_of_way}
use Rattle.matching.proofs.Growth.{unseen_back, grown_more}

module _ (rows : List ℕ) (before : List (Option ℕ)) (glass spare seen marked : ℕ) (grown : Within seen marked) where
  -- A holder has moved.
  pub free_moved :
      (after : List (Option ℕ)) (pane last : ℕ) → way_of before pane ≡ glass →
      Served rows before after pane spare marked last → Freed rows before after glass spare seen last
  free_moved after pane last is m = record {
    last_unseen = unseen_back seen marked last grown m.chain.last_unseen;
    last_spare = m.chain.last_spare;
    counts = λ g. rw is at (m.chain.counts g);
    each = λ p l. go p (m.chain.each p l);
    no_glass_twice = m.chain.no_glass_twice;
    few = omega (arith, m.chain.few, unvisited_le seen marked grown);
  }
    where
      go :
          (p : ℕ) → Move rows before after marked p ((p ≡ pane) ⊎ Unseen marked (way_of before p)) →
          Move rows before after seen p ((way_of before p ≡ glass) ⊎ Unseen seen (way_of before p))
      go p (stays e) = stays e
      go p (moves (inl same) u e) = moves (inl (rw same is)) (unseen_back seen marked (way_of after p) grown u) e
      go p (moves (inr v) u e) =
          moves
          (inr (unseen_back seen marked (way_of before p) grown v))
          (unseen_back seen marked (way_of after p) grown u)
          e

-- What `free` knows when the panes below `next` are done.
pub record Passed (rows : List ℕ) (held : List (Option ℕ)) (glass spare seen marked next : ℕ) : Type 0 where
  pub grown : Grown rows held spare seen marked
  pub rows_seen : (p : ℕ) → p < next → way_of held p ≡ glass → Within (get_or rows p 0) marked

module _
    (rows : List ℕ) (before : List (Option ℕ)) (glass spare seen marked from : ℕ)
    (d : Passed rows before glass spare seen marked from)
    (below : glass < 64)
  where
    -- Between the panes passed and the next holder nobody holds the glass.
    none_held_to : (to : ℕ) → NoneBefore before glass from to → (p : ℕ) → from ≤ p → p < to → way_of before p ≡ glass → ⊥
    none_held_to to none p k l e = none.none p k l (held_of_way (get_or before p None) glass below e)

    pub passed_on :
        (pane : ℕ) → Holder before glass from pane → (after : List (Option ℕ)) (now : ℕ) →
        NotServed rows before after pane spare marked now → Passed rows before glass spare seen now (pane + 1)
    passed_on pane h after now n = record {
      grown = grown_more rows before spare seen marked now d.grown n.grown;
      rows_seen =
          one_more (λ p. way_of before p ≡ glass → Within (get_or rows p 0) now) pane
          (λ p l e. go p l e (cases_lt p from))
          (λ e. n.row_seen);
    }
      where
        go : (p : ℕ) → p < pane → way_of before p ≡ glass → (p < from) ⊎ (from ≤ p) → Within (get_or rows p 0) now
        go p l e (inl passed) = within_trans (get_or rows p 0) marked now (d.rows_seen p passed e) n.grown.keeps
        go p l e (inr behind) = absurd (none_held_to pane h.first p behind l e)

    pub passed_all :
        (to : ℕ) → NoneBefore before glass from to → to ≡ length rows →
        (p : ℕ) → p < length rows → way_of before p ≡ glass → Within (get_or rows p 0) marked
    passed_all to none all p l e = go (cases_lt p from)
      where
        go : (p < from) ⊎ (from ≤ p) → Within (get_or rows p 0) marked
        go (inl passed) = d.rows_seen p passed e
        go (inr behind) = absurd (none_held_to to none p behind (omega (arith, all)) e)
