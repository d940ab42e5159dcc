-- A search among the panes up to the one whose turn it is, as a search among all: the later panes hold no glass yet.
--     servable_early    the pane can be served
--     served_early      it was served
--     stuck_early       it was not served
use Prim.Native.Nat.{ℕ, zero, suc, ◌+◌, ◌-◌, ◌≤◌, ◌<◌}
use mathlib.Core.Path.{◌≡◌, refl, ap, sym, subst⁻¹, ◌∙◌}
use mathlib.Core.Logic.{◌⊎◌, inl, inr}
use mathlib.Core.Bool.{true, false, not}
use mathlib.Core.List.{List, ◌++◌}
use native.Mathlib.Omega.{arith}
use lib.Dec.{eqb}
use lib.ListN.{length, get_or, take, drop}
use borrow.Author.Tests.{eq-eqb}
use Rattle.std.specs.Prelude.{Option, None}
use Rattle.std.proofs.lemmas.Bool.{cases_lt}
use Rattle.std.proofs.lemmas.List.{get_or-take, get_or-drop, length-take-le, take-append-drop, get_or_append_left}
use Rattle.std.proofs.Math.Seq.{get_or-append_right}
use Rattle.ranges.specs.Ranges.{sum_to}
use Rattle.ranges.specs.Internal.Counts.{one, count_to}
use Rattle.ranges.proofs.Sums.{sum_zero}
use Rattle.ranges.proofs.Counts.{count_same}
use Rattle.basics.proofs.Tests.{differ}
use Rattle.glass_set.specs.Internal.Member.{Within}
use Rattle.matching.specs.Internal.Rows.{number_held, way_of}
use Rattle.matching.specs.Internal.Steps.{Unseen, holding, Exhausted, Move, stays, moves, is_moved, Servable, Served, NotServed}

-- Two sums whose terms are the same from k on differ by what they differ below k.
sum_tail :
    (f h : ℕ → ℕ) (k n : ℕ) → k ≤ n → ((p : ℕ) → k ≤ p → p < n → f p ≡ h p) →
    sum_to f n + sum_to h k ≡ sum_to h n + sum_to f k
unfolding sum_to
sum_tail f h zero zero l same = refl
sum_tail f h (suc k) zero l same = absurd (omega arith)
sum_tail f h k (suc n) l same = go (cases_lt n k) (λ m. sum_tail f h k n m (λ p a b. same p a (omega arith)))
  where
    go :
        (n < k) ⊎ (k ≤ n) → (k ≤ n → sum_to f n + sum_to h k ≡ sum_to h n + sum_to f k) →
        sum_to f n + f n + sum_to h k ≡ sum_to h n + h n + sum_to f k
    go (inl at) rest =
        let all : k ≡ suc n = omega arith in
        rw all (omega arith)
    go (inr below) rest = omega (arith, rest below, same n below (omega arith))

-- The rows and the held glasses of the panes up to `next`.
module _
    (rows : List ℕ) (held : List (Option ℕ)) (next : ℕ)
    (turn : next < length rows)
    (same_length : length held ≡ length rows)
  where
    abbrev some_rows : List ℕ
    some_rows = take (next + 1) rows

    abbrev some_held : List (Option ℕ)
    some_held = take (next + 1) held

    many_rows : length some_rows ≡ next + 1
    many_rows = length-take-le (next + 1) rows (omega arith)

    row_early : (p : ℕ) → p < next + 1 → get_or some_rows p 0 ≡ get_or rows p 0
    row_early p l = get_or-take (next + 1) rows p 0 l

    was_early : (p : ℕ) → p < next + 1 → way_of some_held p ≡ way_of held p
    was_early p l = ap number_held (get_or-take (next + 1) held p None l)

    pub servable_early : (seen : ℕ) → Servable rows held next seen → Servable some_rows some_held next seen
    servable_early seen s = record {
      same_length = length-take-le (next + 1) held (omega (arith, same_length)) ∙ sym many_rows;
      of_rows = omega (arith, many_rows);
      settled = λ u. s.settled (subst⁻¹ (Unseen seen) (sym (was_early next (omega arith))) u);
    }

    -- `part` is what the search leaves of them, and `after` has the later ones as they were.
    module _ (part : List (Option ℕ)) (part_long : length part ≡ length some_held) where
      abbrev after : List (Option ℕ)
      after = part ++ drop (next + 1) held

      many : length part ≡ next + 1
      many = part_long ∙ length-take-le (next + 1) held (omega (arith, same_length))

      now_early : (p : ℕ) → p < next + 1 → way_of after p ≡ way_of part p
      now_early p l = ap number_held (get_or_append_left part (drop (next + 1) held) None p (omega (arith, many)))

      now_late : (p : ℕ) → next + 1 ≤ p → way_of after p ≡ way_of held p
      now_late p l =
          ap number_held
          (get_or-append_right part (drop (next + 1) held) p None (omega (arith, many))
          ∙ get_or-drop (next + 1) held (p - length part) None
          ∙ ap (λ (i : ℕ). get_or held i None) (omega (arith, many)))

      -- Among all panes as many more, or fewer, hold a glass as among the early ones.
      holding_early :
          (g : ℕ) →
          holding rows after g + holding some_rows some_held g ≡ holding rows held g + holding some_rows part g
      holding_early g =
          let tail =
          sum_tail (λ p. one (eqb (way_of after p) g)) (λ p. one (eqb (way_of held p) g)) (next + 1) (length rows) (omega arith)
          (λ p k l. ap (λ (x : ℕ). one (eqb x g)) (now_late p k)) in
          let was : holding some_rows some_held g ≡ count_to (λ p. eqb (way_of held p) g) (next + 1) =
          ap (count_to (λ p. eqb (way_of some_held p) g)) many_rows
          ∙ count_same (λ p. eqb (way_of some_held p) g) (λ p. eqb (way_of held p) g) (next + 1)
          (λ p l. ap (λ (x : ℕ). eqb x g) (was_early p l)) in
          let now : holding some_rows part g ≡ count_to (λ p. eqb (way_of after p) g) (next + 1) =
          ap (count_to (λ p. eqb (way_of part p) g)) many_rows
          ∙ count_same (λ p. eqb (way_of part p) g) (λ p. eqb (way_of after p) g) (next + 1)
          (λ p l. ap (λ (x : ℕ). eqb x g) (sym (now_early p l))) in
          omega (arith, tail, was, now)

      -- Only early panes were moved.
      moved_early : (p : ℕ) → p < next + 1 → is_moved held after p ≡ is_moved some_held part p
      moved_early p l = rw (now_early p l, was_early p l) refl

      moved_late : (p : ℕ) → next + 1 ≤ p → is_moved held after p ≡ false
      moved_late p l = ap not (eq-eqb (way_of after p) (way_of held p) (now_late p l))

      is_early : (p : ℕ) → is_moved held after p ≡ true → p < next + 1
      is_early p moved = go (cases_lt p (next + 1))
        where
          go : (p < next + 1) ⊎ (next + 1 ≤ p) → p < next + 1
          go (inl l) = l
          go (inr l) = differ moved (moved_late p l)

      few_early : count_to (is_moved held after) (length rows) ≡ count_to (is_moved some_held part) (length some_rows)
      few_early =
          let tail =
          sum_tail (λ p. one (is_moved held after p)) (λ p. 0) (next + 1) (length rows) (omega arith)
          (λ p k l. ap one (moved_late p k)) in
          let none = sum_zero (λ p. 0) in
          let same = count_same (is_moved held after) (is_moved some_held part) (next + 1) (λ p l. moved_early p l) in
          let all = ap (count_to (is_moved some_held part)) many_rows in
          omega (arith, tail, same, all, none (next + 1) (λ p l. refl), none (length rows) (λ p l. refl))

      pub served_early :
          (spare seen last : ℕ) → Served some_rows some_held part next spare seen last →
          Served rows held after next spare seen last
      served_early spare seen last m = record {
        chain = record {
          last_unseen = m.chain.last_unseen;
          last_spare = m.chain.last_spare;
          counts = λ g.
              let c = rw (was_early next (omega arith)) at (m.chain.counts g) in
              omega (arith, c, holding_early g);
          each = λ p l. go p (cases_lt p (next + 1));
          no_glass_twice = λ p q l k moved moved' same. twice p q (is_early p moved) (is_early q moved') moved moved' same;
          few = omega (arith, few_early, m.chain.few);
        };
        has_unseen = subst⁻¹ (Unseen seen) (now_early next (omega arith)) m.has_unseen;
      }
        where
          Moves : (before now : List (Option ℕ)) (some : List ℕ) → ℕ → Type 0
          Moves before now some p = Move some before now seen p ((p ≡ next) ⊎ Unseen seen (way_of before p))

          early : (p : ℕ) → p < next + 1 → Moves some_held part some_rows p → Moves held after rows p
          early p l (stays e) = stays (now_early p l ∙ e ∙ was_early p l)
          early p l (moves from to e) =
              moves
              (who from)
              (subst⁻¹ (Unseen seen) (now_early p l) to)
              (rw (now_early p l, ← row_early p l) e)
            where
              who : (p ≡ next) ⊎ Unseen seen (way_of some_held p) → (p ≡ next) ⊎ Unseen seen (way_of held p)
              who (inl same) = inl same
              who (inr u) = inr (subst⁻¹ (Unseen seen) (sym (was_early p l)) u)

          go : (p : ℕ) → (p < next + 1) ⊎ (next + 1 ≤ p) → Moves held after rows p
          go p (inl l) = early p l (m.chain.each p (omega (arith, many_rows)))
          go p (inr l) = stays (now_late p l)

          twice :
              (p q : ℕ) → p < next + 1 → q < next + 1 → is_moved held after p ≡ true → is_moved held after q ≡ true →
              way_of after p ≡ way_of after q → p ≡ q
          twice p q l k moved moved' same =
              m.chain.no_glass_twice p q (omega (arith, many_rows)) (omega (arith, many_rows))
              (sym (moved_early p l) ∙ moved)
              (sym (moved_early q k) ∙ moved')
              (sym (now_early p l) ∙ same ∙ now_early q k)

      -- The later panes hold no glass, so a glass that is exhausted among the early ones is so among all.
      pub stuck_early :
          (spare seen now : ℕ) → ((p : ℕ) → next + 1 ≤ p → p < length rows → way_of held p ≡ 64) →
          NotServed some_rows some_held part next spare seen now → NotServed rows held after next spare seen now
      stuck_early spare seen now waiting n = record {
        unchanged = rw n.unchanged (take-append-drop (next + 1) held);
        grown = record {
          keeps = n.grown.keeps;
          exhausted = λ g l e out. all g l (n.grown.exhausted g l e out);
        };
        row_seen = rw (row_early next (omega arith)) at n.row_seen;
      }
        where
          all : (g : ℕ) → g < 64 → Exhausted some_rows some_held spare now g → Exhausted rows held spare now g
          all g below x = record { none_spare = x.none_spare; holders = λ p l e. go p l e (cases_lt p (next + 1)) }
            where
              go :
                  (p : ℕ) → p < length rows → way_of held p ≡ g → (p < next + 1) ⊎ (next + 1 ≤ p) →
                  Within (get_or rows p 0) now
              go p l e (inl k) =
                  rw (row_early p k) at (x.holders p (omega (arith, many_rows)) (was_early p k ∙ e))
              go p l e (inr k) = absurd (omega (arith, e, waiting p k l, below))
