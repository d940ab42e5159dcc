-- A pane's turn, where it waits: what the search makes of how the placing stands.
--     taken_from         the sheets left once one more of a glass is given
--     servable          the pane can be served
--     standing_stuck    how it stands where the pane was not served
--     some_left         the pane was served, and the last glass of the chain had a sheet left
--     standing_moved    how it stands then
use Prim.Native.Nat.{ℕ, ◌+◌, ◌-◌, ◌≤◌, ◌<◌}
use mathlib.Core.Path.{◌≡◌, refl, ap, sym, ◌∙◌}
use mathlib.Core.Logic.{◌⊎◌, inl, inr}
use mathlib.Core.Bool.{Bool, true, false}
use mathlib.Core.List.{List}
use Rattle.std.specs.Prelude.{Option}
use Rattle.std.proofs.lemmas.Bool.{cases_eq}
use native.Mathlib.Omega.{arith}
use lib.Dec.{ltb, eqb}
use lib.ListN.{length, get_or, set, length-set}
use lib.Seq.{get_or-set_same, get_or-set_other}
use borrow.Author.Tests.{eq-eqb, ne_eqb, ltb-true, ltb-false}
use Rattle.ranges.specs.Internal.Counts.{one}
use Rattle.basics.proofs.Tests.{differ, one_more}
use Rattle.glass_set.specs.Internal.Member.{has, Members, Within}
use Rattle.glass_set.proofs.Members.{within_trans}
use Rattle.matching.specs.Internal.Rows.{way_of}
use Rattle.matching.specs.Internal.Steps.{Unseen, holding, Move, stays, moves, Servable, Served, NotServed}
use Rattle.matching.proofs.Standing.{Suits, Held, Standing}

-- The sheets left once one more of a glass is given.
abbrev pub taken_from : List ℕ → ℕ → List ℕ
taken_from left g = set left g (get_or left g 0 - 1)

module _
    (rows sheets : List ℕ) (held : List (Option ℕ)) (left : List ℕ) (tight next : ℕ)
    (s : Standing rows sheets held left tight next)
    (turn : next < length rows)
  where
    waits : way_of held next ≡ 64
    waits = s.waiting next (omega arith) turn

    pub servable : (seen : ℕ) → Servable rows held next seen
    servable seen = record {
      same_length = s.same_length;
      of_rows = turn;
      settled = λ u. omega (arith, u.below, waits);
    }

    -- A search that is stuck has found more tight glasses, which are kept.
    pub standing_stuck :
        (spare : ℕ) → Members spare (λ g. ltb 0 (get_or left g 0)) → (after : List (Option ℕ)) (now : ℕ) →
        NotServed rows held after next spare tight now → Standing rows sheets after left now (next + 1)
    standing_stuck spare spares after now n = rw n.unchanged (record {
      same_length = s.same_length;
      all_glasses = s.all_glasses;
      counted = s.counted;
      suits = s.suits;
      waiting = λ p k l. s.waiting p (omega arith) l;
      all_given = λ g l e. given g l e (has tight g) refl;
      holders = λ p l h. confined p l h (has tight (way_of held p)) refl;
      left_over =
          one_more (λ p. p < length rows → way_of held p ≡ 64 → Within (get_or rows p 0) now) next
          (λ p l k e. wider p (s.left_over p l k e))
          (λ k e. n.row_seen);
      none_tight = λ all. absurd (omega (arith, all next (omega arith) turn, waits));
    })
      where
        given : (g : ℕ) → g < 64 → has now g ≡ true → (x : Bool) → has tight g ≡ x → get_or left g 0 ≡ 0
        given g l e true is = s.all_given g l is
        given g l e false is =
            let none = sym (spares g l) ∙ (n.grown.exhausted g l e is).none_spare in
            omega (arith, ltb-false 0 (get_or left g 0) none)

        wider : (p : ℕ) → Within (get_or rows p 0) tight → Within (get_or rows p 0) now
        wider p w = within_trans (get_or rows p 0) tight now w n.grown.keeps

        confined :
            (p : ℕ) → p < length rows → Held now (way_of held p) → (x : Bool) → has tight (way_of held p) ≡ x →
            Within (get_or rows p 0) now
        confined p l h true is = wider p (s.holders p l (record { below = h.below; in_set = is }))
        confined p l h false is = (n.grown.exhausted (way_of held p) h.below h.in_set is).holders p l refl

    module _
        (spare : ℕ) (spares : Members spare (λ g. ltb 0 (get_or left g 0)))
        (after : List (Option ℕ)) (last : ℕ) (long : length after ≡ length held)
        (m : Served rows held after next spare tight last)
      where
        -- The last glass of the chain had a sheet left.
        pub some_left : 0 < get_or left last 0
        some_left =
            ltb-true 0 (get_or left last 0) (sym (spares last m.chain.last_unseen.below) ∙ m.chain.last_spare)

        left_here : get_or (taken_from left last) last 0 ≡ get_or left last 0 - 1
        left_here =
            get_or-set_same left last (get_or left last 0 - 1) 0 (omega (arith, s.all_glasses, m.chain.last_unseen.below))

        left_there : (g : ℕ) → (g ≡ last → ⊥) → get_or (taken_from left last) g 0 ≡ get_or left g 0
        left_there g other = get_or-set_other left last g (get_or left last 0 - 1) 0 other

        counted_after : (g : ℕ) → g < 64 → holding rows after g + get_or (taken_from left last) g 0 ≡ get_or sheets g 0
        counted_after g l = go (cases_eq g last)
          where
            counts : holding rows after g ≡ holding rows held g + one (eqb last g)
            counts =
                let c = rw (waits, ne_eqb 64 g (λ e. omega (arith, e))) at (m.chain.counts g) in
                omega (arith, c)

            go : (g ≡ last) ⊎ (g ≡ last → ⊥) → holding rows after g + get_or (taken_from left last) g 0 ≡ get_or sheets g 0
            go (inl same) =
                let c = rw (eq-eqb last g (sym same)) at counts in
                let now : get_or (taken_from left last) g 0 ≡ get_or left last 0 - 1 = rw same left_here in
                let was : get_or left g 0 ≡ get_or left last 0 = ap (λ (i : ℕ). get_or left i 0) same in
                omega (arith, c, now, was, some_left, s.counted g l)
            go (inr other) =
                let c = rw (ne_eqb last g (λ e. other (sym e))) at counts in
                omega (arith, c, left_there g other, s.counted g l)

        -- The chain began and ended at glasses that are not tight, and so did every move.
        pub standing_moved : Standing rows sheets after (taken_from left last) tight (next + 1)
        standing_moved = record {
          same_length = long ∙ s.same_length;
          all_glasses = length-set left last (get_or left last 0 - 1) ∙ s.all_glasses;
          counted = counted_after;
          suits = λ p l. suited p l (m.chain.each p l);
          waiting = λ p k l. waits_on p k l (m.chain.each p l);
          all_given = λ g l e. given g l e (cases_eq g last);
          holders = λ p l h. kept p l h (m.chain.each p l);
          left_over =
              one_more (λ p. p < length rows → way_of after p ≡ 64 → Within (get_or rows p 0) tight) next
              (λ p l k e. over p l k e (m.chain.each p k))
              (λ k e. absurd (omega (arith, e, m.has_unseen.below)));
          none_tight = λ all. s.none_tight (λ p l k. had p l (all p (omega arith) k) (m.chain.each p k));
        }
          where
            Moves : ℕ → Type 0
            Moves p = Move rows held after tight p ((p ≡ next) ⊎ Unseen tight (way_of held p))

            suited : (p : ℕ) → p < length rows → Moves p → Suits rows after p
            suited p l (stays e) = rw e (s.suits p l)
            suited p l (moves from to e) = inr (to.below, e)

            waits_on : (p : ℕ) → next + 1 ≤ p → p < length rows → Moves p → way_of after p ≡ 64
            waits_on p k l (stays e) = e ∙ s.waiting p (omega arith) l
            waits_on p k l (moves (inl same) to e) = absurd (omega (arith, same))
            waits_on p k l (moves (inr from) to e) =
                absurd (omega (arith, from.below, s.waiting p (omega arith) l))

            given :
                (g : ℕ) → g < 64 → has tight g ≡ true → (g ≡ last) ⊎ (g ≡ last → ⊥) →
                get_or (taken_from left last) g 0 ≡ 0
            given g l e (inl same) = differ (ap (has tight) (sym same) ∙ e) m.chain.last_unseen.out
            given g l e (inr other) = left_there g other ∙ s.all_given g l e

            kept : (p : ℕ) → p < length rows → Held tight (way_of after p) → Moves p → Within (get_or rows p 0) tight
            kept p l h (stays e) = s.holders p l (rw e at h)
            kept p l h (moves from to e) = differ h.in_set to.out

            over :
                (p : ℕ) → p < next → p < length rows → way_of after p ≡ 64 → Moves p → Within (get_or rows p 0) tight
            over p l k e (stays f) = s.left_over p l k (sym f ∙ e)
            over p l k e (moves from to f) = absurd (omega (arith, e, to.below))

            -- A pane that has had its turn and has a glass now had one already.
            had : (p : ℕ) → p < next → way_of after p < 64 → Moves p → way_of held p < 64
            had p l h (stays e) = rw e at h
            had p l h (moves (inl same) to e) = absurd (omega (arith, same))
            had p l h (moves (inr from) to e) = from.below
