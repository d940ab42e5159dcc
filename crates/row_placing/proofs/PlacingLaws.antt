-- The laws of placings hold for every schedule. The glasses that a placing gives are a matching, and a pane of a group can have none but
-- glasses that suit the group; so the law of matchings bounds the panes placed and those of the group by all panes and the group's sheets.
--     group_bound     they are no more
--     placing_laws    the laws
use Prim.Native.Nat.{ℕ, suc, ◌+◌, ◌-◌, ◌≤◌, ◌<◌}
use mathlib.Core.Path.{◌≡◌, refl, ◌∙◌}
use mathlib.Core.Logic.{◌⊎◌, inl, inr}
use mathlib.Core.Bool.{Bool, true, false, not, ◌&&◌, ◌||◌, or-true}
use mathlib.Core.List.{List, [], ◌∷◌}
use native.Mathlib.Omega.{arith}
use lib.Dec.{T, ltb, eqb}
use lib.ListN.{length, get_or}
use borrow.Author.Tests.{ltb-true, ltb-false, lt-ltb, le-ltb, eqb-true, eqb-false, eq-eqb}
use Rattle.ids.specs.Ids.{among, Distinct}
use Rattle.ranges.specs.Internal.Counts.{one, count_to}
use Rattle.ranges.proofs.Sums.{sum_less}
use Rattle.ranges.proofs.Counts.{one_le, count_same, count_less, count_fewer}
use Rattle.ranges.proofs.Any.{any_of}
use Rattle.ranges.proofs.All.{all_of}
use Rattle.matching.specs.Internal.Matching.{Task, given, served, Matching, confined}
use Rattle.matching.proofs.Cover.{served_le, served_less}
use Rattle.row_placing.specs.Schedule.{Schedule}
use Rattle.row_placing.specs.Placing.{nonzero, PassingId, Placing}
use Rattle.row_placing.specs.ShortGroup.{suits, sheets_for, PaneId, PaneGroup, lacking}
use Rattle.row_placing.specs.Laws.{PlacingLaws}
use Rattle.row_placing.proofs.Ids.{times_count, nonzero_count, nonzero_le}

-- Where a test fails, one that passes adds more to a count.
fails_less : (b : Bool) → T (not b) → one b < 1
fails_less true h = absurd h
fails_less false h = omega arith

module _ (s : Schedule) where
  -- Whether a pane's id is in a group.
  abbrev in_group : List ℕ → ℕ → Bool
  in_group group p = among (get_or s.pane_ids p 0) group

  -- Different pane ids are no more than the panes that have one of them: each id has a pane that none of the others has.
  group_le :
      (group : List ℕ) → Distinct group → ((k : ℕ) → k < length group → PaneId s (get_or group k 0)) →
      length group ≤ count_to (in_group group) (length s.pane_ids)
  unfolding among Distinct
  group_le [] once of_panes = omega arith
  group_le (id ∷ ids) once of_panes =
      let pane = of_panes 0 (omega arith) in
      omega (
        arith,
        group_le ids once.1 (λ k l. of_panes (suc k) (omega arith)),
        sum_less
            (λ p. one (in_group ids p))
            (λ p. one (in_group (id ∷ ids) p))
            (length s.pane_ids)
            pane.place
            pane.within
            (λ p l. one_le (in_group ids p) (in_group (id ∷ ids) p) (λ later. rw later (or-true (eqb id (get_or s.pane_ids p 0)))))
            (rw (pane.is_id, eq-eqb id id refl) (fails_less (among id ids) once.0)),
      )

  -- What is to be matched.
  abbrev task : Task
  task = record {
    panes = length s.pane_ids;
    glasses = length s.glass_ids;
    passes = s.passes;
    sheets = λ g. get_or s.sheets g 0;
  }

  -- A pane of a group can have none but glasses that suit it.
  confined_in :
      (group : List ℕ) (p : ℕ) → p < length s.pane_ids → in_group group p ≡ true → confined task (suits s group) p ≡ true
  confined_in group p l is =
      all_of (λ g. not (s.passes p g) || suits s group g) (length s.glass_ids) (λ g k. go g (s.passes p g) refl)
    where
      go : (g : ℕ) (b : Bool) → s.passes p g ≡ b → (not b || suits s group g) ≡ true
      go g true pass = any_of (λ q. in_group group q && s.passes q g) (length s.pane_ids) p l (rw (is, pass))
      go g false fail = refl

  module _ (ids : List ℕ) (placing : Placing s ids) where
    abbrev entry : ℕ → ℕ
    entry p = get_or ids p 0

    -- The place of the glass that a pane is given; past the last glass where it is given none. Of no pane, any number.
    record GlassOf (p : ℕ) : Type 0 where
      place : ℕ
      within : p < length s.pane_ids → (entry p ≡ 0 → ⊥) → place < length s.glass_ids
      none : p < length s.pane_ids → entry p ≡ 0 → place ≡ length s.glass_ids
      is_id : p < length s.pane_ids → place < length s.glass_ids → get_or s.glass_ids place 0 ≡ entry p
      passing : p < length s.pane_ids → place < length s.glass_ids → s.passes p place ≡ true

    glass_of_lem : (p : ℕ) → GlassOf p
    glass_of_lem p = go (ltb p (length s.pane_ids)) (eqb (entry p) 0) refl refl
      where
        given_one : (entry p ≡ 0 → ⊥) → (entry p ≡ 0) ⊎ PassingId s p (entry p) → GlassOf p
        given_one some (inl zero) = absurd (some zero)
        given_one some (inr g) = record {
          place = g.place;
          within = λ l is. g.within;
          none = λ l zero. absurd (some zero);
          is_id = λ l k. g.is_id;
          passing = λ l k. g.passing;
        }

        go : (a b : Bool) → ltb p (length s.pane_ids) ≡ a → eqb (entry p) 0 ≡ b → GlassOf p
        go true true here is = record {
          place = length s.glass_ids;
          within = λ l some. absurd (some (eqb-true (entry p) 0 is));
          none = λ l zero. refl;
          is_id = λ l k. absurd (omega arith);
          passing = λ l k. absurd (omega arith);
        }
        go true false here is =
            given_one (eqb-false (entry p) 0 is) (placing.passing p (ltb-true p (length s.pane_ids) here))
        go false b past is =
            let beyond = ltb-false p (length s.pane_ids) past in
            record {
              place = 0;
              within = λ l. absurd (omega arith);
              none = λ l. absurd (omega arith);
              is_id = λ l. absurd (omega arith);
              passing = λ l. absurd (omega arith);
            }

    abbrev way : ℕ → ℕ
    way p = (glass_of_lem p).place

    -- A glass goes to no more panes than it has sheets: each of them has its id.
    in_stock : (g : ℕ) → g < length s.glass_ids → given task way g ≤ get_or s.sheets g 0
    in_stock g k =
        omega (
          arith,
          count_fewer (λ p. eqb (way p) g) (λ p. eqb (entry p) (get_or s.glass_ids g 0)) (length s.pane_ids) same_id,
          times_count ids (length s.pane_ids) placing.one_each (get_or s.glass_ids g 0),
          placing.in_stock g k,
        )
      where
        same_id : (p : ℕ) → p < length s.pane_ids → eqb (way p) g ≡ true → eqb (entry p) (get_or s.glass_ids g 0) ≡ true
        same_id p l is =
            let same = eqb-true (way p) g is in
            eq-eqb (entry p) (get_or s.glass_ids g 0) (rw (← same, (glass_of_lem p).is_id l (omega (arith, same))))

    matches : Matching task way
    matches = record { passing = λ p l k. (glass_of_lem p).passing l k; in_stock = in_stock }

    -- The panes that have an id are those that are served.
    served_is : nonzero ids ≡ served task way
    served_is =
        nonzero_count ids (length s.pane_ids) placing.one_each
        ∙ count_same
        (λ p. not (eqb (entry p) 0))
        (λ p. ltb (way p) (length s.glass_ids))
        (length s.pane_ids)
        (λ p l. go p l (eqb (entry p) 0) refl)
      where
        go : (p : ℕ) → p < length s.pane_ids → (b : Bool) → eqb (entry p) 0 ≡ b → not b ≡ ltb (way p) (length s.glass_ids)
        go p l true is =
            rw (le-ltb (way p) (length s.glass_ids) (omega (arith, (glass_of_lem p).none l (eqb-true (entry p) 0 is))))
        go p l false is =
            rw (lt-ltb (way p) (length s.glass_ids) ((glass_of_lem p).within l (eqb-false (entry p) 0 is)))

    module _ (group : List ℕ) (panes : PaneGroup s group) where
      pub group_bound : length group + nonzero ids ≤ sheets_for s group + length s.pane_ids
      group_bound =
          omega (
            arith,
            group_le group panes.each_once panes.of_panes,
            served_is,
            served_le task (suits s group) way (in_group group) matches (confined_in group),
          )

      -- A pane that is neither placed nor of the group leaves one to spare.
      spare_bound :
          (p : ℕ) → p < length s.pane_ids → entry p ≡ 0 → in_group group p ≡ false →
          length group + nonzero ids < sheets_for s group + length s.pane_ids
      spare_bound p l zero out =
          let past : length s.glass_ids ≤ way p = omega (arith, (glass_of_lem p).none l zero) in
          omega (
            arith,
            group_le group panes.each_once panes.of_panes,
            served_is,
            served_less task (suits s group) way (in_group group) matches (confined_in group) p l past out,
          )

pub placing_laws : (s : Schedule) → PlacingLaws s
placing_laws s = record {
  at_most = at_most;
  short_group = λ group g full.
      omega (arith, group_bound s full.ids full.placing group g.some_panes, full.every_pane, g.short);
  lacking_most = λ ids group placing panes. omega (arith, group_bound s ids placing group panes, at_most ids placing);
  left_over = λ ids group placing panes whole i l zero. left ids group placing panes whole i l zero (in_group s group i) refl;
  one_number = λ ids group placed g other_ids other_group other h.
      omega (
        arith,
        g.placed_is,
        h.placed_is,
        g.most_placed other_ids h.placing,
        h.most_placed ids g.placing,
      );
}
  where
    at_most : (ids : List ℕ) → Placing s ids → nonzero ids ≤ length s.pane_ids
    at_most ids placing = nonzero_le ids (length s.pane_ids) placing.one_each

    left :
        (ids group : List ℕ) (placing : Placing s ids) (panes : PaneGroup s group) →
        lacking s group ≡ length s.pane_ids - nonzero ids → (i : ℕ) → i < length s.pane_ids → get_or ids i 0 ≡ 0 →
        (b : Bool) → in_group s group i ≡ b → in_group s group i ≡ true
    left ids group placing panes whole i l zero true is = is
    left ids group placing panes whole i l zero false out =
        let placed = nonzero_count ids (length s.pane_ids) placing.one_each in
        let fewer = count_less (λ p. not (eqb (get_or ids p 0) 0)) (length s.pane_ids) i l (rw zero) in
        absurd (omega (arith, whole, placed, fewer, spare_bound s ids placing group panes i l zero out))
