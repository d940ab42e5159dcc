-- What the code writes: the answers, one after the other, and the group.
--     answered_none, answered_next    the ids of the glasses held, of no pane and of one pane more
--     answered_le                     no more panes are placed than are answered
--     group_put, group_stay           the set of the group's ids, of one pane more, which is of the group or not
--     group_all                       of all panes
--     group_few                       the group has at most an id for each pane
use Prim.Native.Nat.{ℕ, ◌+◌, ◌≤◌, ◌<◌}
use mathlib.Core.Path.{◌≡◌, refl}
use mathlib.Core.Bool.{true, false}
use mathlib.Core.List.{List, [], ◌∷◌, ◌++◌}
use native.Mathlib.Omega.{arith}
use lib.Dec.{eqb, ltb}
use lib.ListN.{length, get_or, set, take}
use Rattle.std.specs.Prelude.{Option, None, if◌then◌else◌}
use Rattle.ranges.proofs.Counts.{count_le}
use Rattle.glass_set.specs.Internal.Member.{is_within}
use Rattle.ids.specs.declared.sets.IdSet.{IdSet}
use Rattle.ids.specs.Internal.IdSets.{SetOf}
use Rattle.rising_ids.specs.Internal.Listing.{list_to, rising, ids_in}
use Rattle.rising_ids.proofs.Listing.{list_length, list_next, list_stay}
use Rattle.rising_ids.proofs.Rising.{rising_few}
use Rattle.rising_ids.proofs.RisingSets.{none_rising, set_put, ids_rising}
use Rattle.row_placing.specs.Internal.Entries.{entry_held, entries_held}
use Rattle.row_placing.specs.Placing.{nonzero}
use Rattle.basics.specs.Lent.{lent}
use Rattle.basics.proofs.Lent.{written_map, map_next, map_long}
use Rattle.row_placing.specs.Internal.Steps.{Answered, confined_to, confined_ids}
use Rattle.row_placing.proofs.Ids.{nonzero_le}

nonzero_last : (xs : List ℕ) (x : ℕ) → nonzero (xs ++ (x ∷ [])) ≡ nonzero xs + (if eqb x 0 then 0 else 1)
unfolding nonzero
nonzero_last [] x = omega arith
nonzero_last (y ∷ ys) x = omega (arith, nonzero_last ys x)

module _ (ids : List ℕ) (held : List (Option ℕ)) (before : List ℕ) (fits : length held ≤ length before) where
  pub answered_none : Answered ids (take 0 held) (lent before before) 0
  unfolding nonzero
  answered_none = record { answers_are = refl; placed_is = refl }

  pub answered_next :
      (i : ℕ) (after : List ℕ) (placed id : ℕ) → i < length held → id ≡ entry_held ids (get_or held i None) →
      Answered ids (take i held) (lent before after) placed →
      Answered ids (take (i + 1) held) (lent before (set after i id)) (placed + (if eqb id 0 then 0 else 1))
  answered_next i after placed id l is a = record {
    answers_are = rw is (written_map (entry_held ids) held None i before after l (omega arith) a.answers_are);
    placed_is = rw (map_next (entry_held ids) held None i l, nonzero_last, ← is, a.placed_is);
  }

  pub answered_le :
      (i : ℕ) (after : List ℕ) (placed : ℕ) → i ≤ length held → Answered ids (take i held) (lent before after) placed → placed ≤ i
  answered_le i after placed l a =
      let given : List ℕ = entries_held ids (take i held) in
      omega (arith, a.placed_is, nonzero_le given i (map_long (entry_held ids) held i l))

-- The ids of the group are put into a set, pane by pane.
module _ (ids rows : List ℕ) (tight : ℕ) where
  abbrev so_far : ℕ → List ℕ
  so_far n = list_to (λ p. get_or ids p 0) (confined_to rows tight) n

  pub group_none : (set : IdSet) → SetOf set [] → SetOf set (rising (so_far 0))
  unfolding list_to
  group_none set s = none_rising set s

  module _ (n next row id : ℕ) (one_more : next ≡ n + 1) (row_is : row ≡ get_or rows n 0) (id_is : id ≡ get_or ids n 0) where
    pub group_put :
        (set : IdSet) → is_within row tight ≡ true →
        SetOf set (if ltb id 10000 then rising (so_far n) ++ (id ∷ []) else rising (so_far n)) → SetOf set (rising (so_far next))
    group_put set within s =
        rw (one_more, list_next (λ p. get_or ids p 0) (confined_to rows tight) n (rw row_is at within))
        (set_put set (so_far n) (get_or ids n 0) (rw id_is at s))

    pub group_stay :
        (set : IdSet) → is_within row tight ≡ false → SetOf set (rising (so_far n)) → SetOf set (rising (so_far next))
    group_stay set apart s =
        rw (one_more, list_stay (λ p. get_or ids p 0) (confined_to rows tight) n (rw row_is at apart)) s

  pub group_all :
      (set : IdSet) (n : ℕ) → n ≡ length rows → SetOf set (rising (so_far n)) → ids_in set ≡ rising (confined_ids ids rows tight)
  group_all set n all s = ids_rising (confined_ids ids rows tight) set (rw all at s)

pub group_few : (ids rows : List ℕ) (tight : ℕ) → length (rising (confined_ids ids rows tight)) ≤ length rows
group_few ids rows tight =
    omega (
      arith,
      rising_few (confined_ids ids rows tight),
      list_length (λ p. get_or ids p 0) (confined_to rows tight) (length rows),
      count_le (confined_to rows tight) (length rows),
    )
