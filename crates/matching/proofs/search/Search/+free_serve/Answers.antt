-- `serve` and `free` meet their contracts: each way through them is a law of Serving.antt or Freeing.antt.
use Rattle.std.proofs.Common.{ℕ, length, ◌≡◌, ◌<◌, false, true, slice_index_or, sym, ap, ◌∙◌, arith}
use Rattle.basics.proofs.Tests.{differ}
use Rattle.glass_set.specs.Internal.Member.{has, unvisited}
use Rattle.glass_set.proofs.Members.{unvisited_le}
use Rattle.matching.specs.Internal.Steps.{Unseen}
use Rattle.matching.proofs.Ways.{way_held}
use Rattle.matching.proofs.Growth.{unseen_back}
use Rattle.matching.proofs.Serving.{serve_spare, serve_moved, serve_on}
use Rattle.matching.proofs.Freeing.{free_moved, passed_on, passed_all}
use Rattle.matching.proofs.Choices.{at_hand, none_at_hand, rest_at, rest_none, now_marked, fewer}
use Rattle.matching.proofs.search.Search.+free_serve.Goals as goal
use Rattle.matching.proofs.search.Search.+free_serve.Goals.{serve-After-with}

-- ---- free

pub free-serve-requires : goal.free-serve-requires
free-serve-requires t c =
    let l = c.loop-pane in
    let h = c.in-Some.ensures in
    let keeps = l.invariant.passed.grown.keeps in (
      omega (arith, unvisited_le c.args.seen l.grown keeps, c.decreases),
      record {
        same_length = rw l.invariant.unchanged c.requires.same_length;
        of_rows = omega (arith, h.within, l.auto.held, c.requires.same_length);
        settled = λ u.
            differ
            (keeps c.args.glass c.requires.below c.requires.marked)
            (ap (has l.grown) (sym (way_held _ _ c.requires.below h.holds)) ∙ u.out);
      },
    )

pub free-returns-in-Ok : goal.free-returns-in-Ok
free-returns-in-Ok t c =
    let l = c.loop-pane in
    let holds = way_held _ _ c.requires.below c.in-Some.ensures.holds in
    free_moved _ _ _ _ _ _ l.invariant.passed.grown.keeps _ _ _
    (rw l.invariant.unchanged at holds)
    (rw l.invariant.unchanged at c.in-Ok.ensures)

pub free-returns : goal.free-returns
free-returns t c =
    let inv = c.loop-pane.invariant in
    let none = rw inv.unchanged at c.in_default.ensures in record {
      unchanged = inv.unchanged;
      grown = inv.passed.grown;
      rows_seen = passed_all _ _ _ _ _ _ _ inv.passed c.requires.below _ none c.requires.same_length;
    }

pub free-loop-pane-preserved : goal.free-loop-pane-preserved
free-loop-pane-preserved t c =
    let inv = c.loop-pane.invariant in
    let h = rw inv.unchanged at c.in-Some.ensures in
    let n = rw inv.unchanged at c.in-Err.ensures in record {
      unchanged = n.unchanged;
      passed = passed_on _ _ _ _ _ _ _ inv.passed c.requires.below _ h _ _ n;
      within = omega (arith, h.within);
    }

-- ---- serve

pub serve-returns-in-Some : goal.serve-returns-in-Some
serve-returns-in-Some t c =
    let h =
    at_hand _ _ _ _ _ c.both.ensures c.minus.ensures c.in-Some.glass c.in-Some.ensures.below c.in-Some.ensures.member in
    serve_spare _ _ _ _ _ _ c.requires h.2 h.1 h.0

pub serve-returns : goal.serve-returns
serve-returns t c = record {
  unchanged = c.loop-glass.invariant.unchanged;
  grown = c.loop-glass.invariant.grown;
  row_seen = rest_none _ _ _ c.minus-in-loop-glass.ensures c.in_default-find_first.ensures;
}

-- The glass that is marked: the pane can have it, and it was unmarked.
choice :
    (t : ℕ) (c : serve-After-with t) →
    let glass = c.in-Some-find_first.glass in
    (has (slice_index_or c.args.self.now.rows.now c.args.pane 0) glass ≡ true) × Unseen c.loop-glass.marked glass
choice t c =
    let f = c.in-Some-find_first in
    rest_at _ _ _ c.minus-in-loop-glass.ensures f.glass f.ensures.below f.ensures.member

fewer_left : (t : ℕ) (c : serve-After-with t) → unvisited c.with.result < unvisited c.loop-glass.marked
fewer_left t c =
    let u = (choice t c).1 in
    fewer _ _ _ c.with.ensures u.below u.out

-- It has no sheet to spare, since no unseen glass that the pane can have has one.
not_spare : (t : ℕ) (c : serve-After-with t) → has c.args.self.now.spare c.in-Some-find_first.glass ≡ false
not_spare t c =
    let k = choice t c in
    none_at_hand _ _ _ _ _ c.both.ensures c.minus.ensures c.in_default.ensures _
    (unseen_back _ _ _ c.loop-glass.invariant.grown.keeps k.1)
    k.0

pub serve-free-requires : goal.serve-free-requires
serve-free-requires t c =
    let u = (choice t c).1 in
    let inv = c.loop-glass.invariant in (
      omega (arith, unvisited_le c.args.seen c.loop-glass.marked inv.grown.keeps, fewer_left t c, c.decreases),
      record {
        same_length = rw inv.unchanged c.requires.same_length;
        below = u.below;
        marked = now_marked _ _ _ c.with.ensures u.below;
      },
    )

pub serve-returns-in-Ok : goal.serve-returns-in-Ok
serve-returns-in-Ok t c =
    let inv = c.loop-glass.invariant in
    let k = choice t (goal.at.serve-returns-in-Ok t c).After-with in
    serve_moved _ _ _ _ _ _ _ _ inv.grown.keeps k.1 c.with.ensures c.requires _ _
    (c.free.auto.held ∙ ap length inv.unchanged)
    (rw inv.unchanged at c.in-Ok.ensures)
    k.0

pub serve-loop-glass-smaller : goal.serve-loop-glass-smaller
serve-loop-glass-smaller t c =
    let marked : unvisited c.with.result < unvisited c.loop-glass.marked =
    fewer_left t (goal.at.serve-loop-glass-smaller t c).After-with in
    omega (arith, marked, unvisited_le c.with.result c.in-Err.stuck.seen c.in-Err.ensures.grown.keeps)

pub serve-loop-glass-preserved : goal.serve-loop-glass-preserved
serve-loop-glass-preserved t c =
    let inv = c.loop-glass.invariant in
    let w = (goal.at.serve-loop-glass-preserved t c).After-with in
    let freed = rw inv.unchanged at c.in-Err.ensures in record {
      unchanged = freed.unchanged;
      grown =
          serve_on _ _ _ _ _ _ _ _ inv.grown.keeps (choice t w).1 c.with.ensures c.requires _ _ (not_spare t w) inv.grown freed;
    }
