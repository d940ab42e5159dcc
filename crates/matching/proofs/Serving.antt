-- The ways through `serve`: what the call of `free` leaves is what `serve` leaves.
--     serve_spare    a spare sheet is taken
--     serve_moved    a holder of a glass has moved, and the pane takes its sheet
--     serve_on       no holder of a glass can move: it is exhausted too
use Prim.Native.Nat.{ℕ, ◌+◌, ◌<◌}
use mathlib.Core.Path.{◌≡◌, refl, ap, sym, subst⁻¹, ◌∙◌}
use mathlib.Core.Logic.{◌⊎◌, inl, inr}
use mathlib.Core.Bool.{Bool, true, false, ◌||◌}
use mathlib.Core.List.{List}
use Rattle.std.specs.Prelude.{Option, Some}
use Rattle.std.proofs.lemmas.Bool.{cases_eq}
use native.Mathlib.Omega.{arith}
use lib.Dec.{eqb}
use lib.ListN.{length, get_or, set}
use borrow.Author.Tests.{ne_eqb}
use Rattle.ranges.specs.Internal.Counts.{one}
use Rattle.basics.proofs.Tests.{differ}
use Rattle.ranges.proofs.Sums.{sum_at}
use Rattle.glass_set.specs.Internal.Member.{has, Members, Within}
use Rattle.glass_set.proofs.Members.{within_trans, unvisited_le, unvisited_some}
use Rattle.matching.specs.Internal.Rows.{way_of}
use Rattle.matching.specs.Internal.Steps.{Unseen, holding, Exhausted, Grown, Move, stays, moves, is_moved, Servable, Served, Freed, NotFreed}
use Rattle.matching.proofs.Ways.{way_here, way_there}
use Rattle.matching.proofs.Growth.{unseen_back, within_with, exhausted_more}
use Rattle.matching.proofs.Choices.{now_marked, fewer}
use Rattle.matching.proofs.Links.{moved_unseen, none_moved, few_none, none_twice, few_more, twice_more}

-- The panes that hold each glass, after one pane was given another.
holding_set :
    (rows : List ℕ) (held : List (Option ℕ)) (pane glass : ℕ) → glass < 64 → length held ≡ length rows → pane < length rows →
    (g : ℕ) →
    holding rows (set held pane (Some glass)) g + one (eqb (way_of held pane) g)
    ≡ holding rows held g + one (eqb glass g)
holding_set rows held pane glass below long l g =
    sum_at (λ p. one (eqb (way_of (set held pane (Some glass)) p) g)) (λ p. one (eqb (way_of held p) g))
    (length rows) pane l
    (λ p k other. ap (λ (x : ℕ). one (eqb x g)) (way_there held pane p glass other))
    ∙ ap (λ (x : ℕ). holding rows held g + one (eqb x g)) (way_here held pane glass below (omega arith))

module _ (rows : List ℕ) (before : List (Option ℕ)) (pane spare seen : ℕ) where
  -- A spare sheet of an unseen glass is taken.
  pub serve_spare :
      (glass : ℕ) → Servable rows before pane seen →
      Unseen seen glass → has spare glass ≡ true → has (get_or rows pane 0) glass ≡ true →
      Served rows before (set before pane (Some glass)) pane spare seen glass
  serve_spare glass s unseen at_hand passing =
      let here : way_of (set before pane (Some glass)) pane ≡ glass =
      way_here before pane glass unseen.below (omega (arith, s.same_length, s.of_rows)) in
      let has_unseen = subst⁻¹ (Unseen seen) here unseen in
      let has_passing = subst⁻¹ (λ (g : ℕ). has (get_or rows pane 0) g ≡ true) here passing in
      record {
        chain = record {
          last_unseen = unseen;
          last_spare = at_hand;
          counts = holding_set rows before pane glass unseen.below s.same_length s.of_rows;
          each = λ p l. go has_unseen has_passing p (cases_eq p pane);
          no_glass_twice =
              twice_more before before pane glass (length rows) unseen.below (omega (arith, s.same_length, s.of_rows))
              (none_twice before (length rows))
              (λ p l moved. absurd (none_moved before p moved));
          few = omega (
            arith,
            few_more before before pane glass (length rows) s.of_rows,
            few_none before (length rows),
            unvisited_some seen glass unseen.below unseen.out,
          );
        };
        has_unseen = has_unseen;
      }
    where
      go :
          Unseen seen (way_of (set before pane (Some glass)) pane) →
          has (get_or rows pane 0) (way_of (set before pane (Some glass)) pane) ≡ true →
          (p : ℕ) → (p ≡ pane) ⊎ (p ≡ pane → ⊥) →
          Move rows before (set before pane (Some glass)) seen p ((p ≡ pane) ⊎ Unseen seen (way_of before p))
      go u e p (inl same) = moves (inl same) (rw same u) (rw same e)
      go u e p (inr other) = stays (way_there before pane p glass other)

  -- `marked` has grown from `seen`; a holder of the unmarked `glass` was moved, and the pane takes its sheet.
  module _ (marked glass with_glass : ℕ) (grown : Within seen marked) (unmarked : Unseen marked glass)
      (is_with : Members with_glass (λ g. eqb g glass || has marked g)) (s : Servable rows before pane seen) where
    wider : Within seen with_glass
    wider = within_trans seen marked with_glass grown (within_with marked with_glass glass is_with)

    glass_unseen : Unseen seen glass
    glass_unseen = unseen_back seen marked glass grown unmarked

    -- Who leaves for the sake of the glass held an unseen one.
    left : (p : ℕ) → (way_of before p ≡ glass) ⊎ Unseen with_glass (way_of before p) → Unseen seen (way_of before p)
    left p (inl e) = subst⁻¹ (Unseen seen) e glass_unseen
    left p (inr u) = unseen_back seen with_glass (way_of before p) wider u

    module _ (mid : List (Option ℕ)) (last : ℕ) (long : length mid ≡ length before)
        (freed : Freed rows before mid glass spare with_glass last) where
      pane_stays : way_of mid pane ≡ way_of before pane
      pane_stays = go (freed.each pane s.of_rows)
        where
          go :
              Move rows before mid with_glass pane ((way_of before pane ≡ glass) ⊎ Unseen with_glass (way_of before pane)) →
              way_of mid pane ≡ way_of before pane
          go (stays e) = e
          go (moves l u e) = absurd (s.settled (left pane l))

      -- Nobody was moved to the glass, since it was marked.
      new_glass : (p : ℕ) → p < length rows → is_moved before mid p ≡ true → way_of mid p ≡ glass → ⊥
      new_glass p l moved e =
          let to = moved_unseen rows before mid with_glass p moved (freed.each p l) in
          differ (now_marked marked glass with_glass is_with unmarked.below) (ap (has with_glass) (sym e) ∙ to.out)

      pub serve_moved :
          has (get_or rows pane 0) glass ≡ true → Served rows before (set mid pane (Some glass)) pane spare seen last
      serve_moved passing =
          let here : way_of (set mid pane (Some glass)) pane ≡ glass =
          way_here mid pane glass unmarked.below (omega (arith, long, s.same_length, s.of_rows)) in
          let has_unseen = subst⁻¹ (Unseen seen) here glass_unseen in
          let has_passing = subst⁻¹ (λ (g : ℕ). has (get_or rows pane 0) g ≡ true) here passing in
          record {
            chain = record {
              last_unseen = unseen_back seen with_glass last wider freed.last_unseen;
              last_spare = freed.last_spare;
              counts = λ g.
                  let given = holding_set rows mid pane glass unmarked.below (long ∙ s.same_length) s.of_rows g in
                  let given' = rw pane_stays at given in
                  omega (arith, given', freed.counts g);
              each = λ p l. go has_unseen has_passing p (cases_eq p pane) (freed.each p l);
              no_glass_twice =
                  twice_more before mid pane glass (length rows) unmarked.below (omega (arith, long, s.same_length, s.of_rows))
                  freed.no_glass_twice new_glass;
              few = omega (
                arith,
                few_more before mid pane glass (length rows) s.of_rows,
                freed.few,
                fewer marked glass with_glass is_with unmarked.below unmarked.out,
                unvisited_le seen marked grown,
              );
            };
            has_unseen = has_unseen;
          }
        where
          go :
              Unseen seen (way_of (set mid pane (Some glass)) pane) →
              has (get_or rows pane 0) (way_of (set mid pane (Some glass)) pane) ≡ true →
              (p : ℕ) → (p ≡ pane) ⊎ (p ≡ pane → ⊥) →
              Move rows before mid with_glass p ((way_of before p ≡ glass) ⊎ Unseen with_glass (way_of before p)) →
              Move rows before (set mid pane (Some glass)) seen p ((p ≡ pane) ⊎ Unseen seen (way_of before p))
          go u e p (inl same) m = moves (inl same) (rw same u) (rw same e)
          go u e p (inr other) (stays k) = stays (way_there mid pane p glass other ∙ k)
          go u e p (inr other) (moves l v k) =
              let same = way_there mid pane p glass other in
              moves
              (inr (left p l))
              (subst⁻¹ (Unseen seen) same (unseen_back seen with_glass (way_of mid p) wider v))
              (rw same k)

    -- No holder of the glass can move: the glass is exhausted too.
    pub serve_on :
        (after : List (Option ℕ)) (now : ℕ) → has spare glass ≡ false →
        Grown rows before spare seen marked → NotFreed rows before after glass spare with_glass now →
        Grown rows before spare seen now
    serve_on after now none g f = record {
      keeps = within_trans seen with_glass now wider f.grown.keeps;
      exhausted = λ i l e out. go i l e out (has marked i) refl (cases_eq i glass);
    }
      where
        marked_now : Within marked now
        marked_now =
            within_trans marked with_glass now (within_with marked with_glass glass is_with) f.grown.keeps

        go :
            (i : ℕ) → i < 64 → has now i ≡ true → has seen i ≡ false → (x : Bool) → has marked i ≡ x →
            (i ≡ glass) ⊎ (i ≡ glass → ⊥) → Exhausted rows before spare now i
        go i l e out true is which = exhausted_more rows before spare marked now i marked_now (g.exhausted i l is out)
        go i l e out false is (inl same) = rw same (record { none_spare = none; holders = f.rows_seen })
        go i l e out false is (inr other) =
            f.grown.exhausted i l e (is_with i l ∙ rw (ne_eqb i glass other) is)
