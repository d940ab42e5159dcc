-- The entries of a list at some places, as a map over the places gives them.
--     entry_at                each of them: they are as many as the places, by `length-map`
--     held_at, held_same      the same at places that are held; of two lists that agree there
use Prim.Native.Nat.{ℕ, zero, suc, ◌+◌, ◌≤◌, ◌<◌}
use mathlib.Core.Path.{◌≡◌, refl, sym, ◌∙◌}
use mathlib.Core.List.{List, [], ◌∷◌}
use native.Mathlib.Omega.{arith}
use lib.ListN.{length, get_or, get_or-eq_default}
use lib.Dec.{ltb}
use mathlib.Core.Bool.{Bool, true, false}
use borrow.Author.Tests.{ltb-false}
use Rattle.std.specs.Prelude.{Option, Some, None, if◌then◌else◌}
use Rattle.matching.specs.Internal.Rows.{number_held, way_of}
use Rattle.row_placing.specs.Internal.Entries.{entries_at, entry_held, entries_held}

pub entry_at :
    (xs places : List ℕ) (p : ℕ) → p < length places → get_or (entries_at xs places) p 0 ≡ get_or xs (get_or places p 0) 0
entry_at xs [] p l = absurd (omega arith)
entry_at xs (i ∷ is) zero l = refl
entry_at xs (i ∷ is) (suc p) l = entry_at xs is p (omega arith)

-- A list of at most 64 entries has none at a number that stands for no place, nor at a place from 64 on.
entry_number : (xs : List ℕ) (place : Option ℕ) → length xs ≤ 64 → entry_held xs place ≡ get_or xs (number_held place) 0
entry_number xs None few = sym (get_or-eq_default xs 0 few)
entry_number xs (Some place) few = go (ltb place 64) refl
  where
    go : (x : Bool) → ltb place 64 ≡ x → get_or xs place 0 ≡ get_or xs (if x then place else place + 1) 0
    go true is = refl
    go false is =
        let over = ltb-false place 64 is in
        get_or-eq_default xs 0 (omega (arith, over, few)) ∙ sym (get_or-eq_default xs 0 (omega (arith, over, few)))

pub held_at :
    (xs : List ℕ) (held : List (Option ℕ)) (p : ℕ) → length xs ≤ 64 → p < length held →
    get_or (entries_held xs held) p 0 ≡ get_or xs (way_of held p) 0
held_at xs [] p few l = absurd (omega arith)
held_at xs (place ∷ held) zero few l = entry_number xs place few
held_at xs (place ∷ held) (suc p) few l = held_at xs held p few (omega arith)

pub held_same :
    (xs ys : List ℕ) (held : List (Option ℕ)) → length xs ≤ 64 → length ys ≤ 64 →
    ((p : ℕ) → p < length held → get_or xs (way_of held p) 0 ≡ get_or ys (way_of held p) 0) →
    entries_held xs held ≡ entries_held ys held
held_same xs ys [] few less h = refl
held_same xs ys (place ∷ held) few less h =
    rw (
      entry_number xs place few ∙ h 0 (omega arith) ∙ sym (entry_number ys place less),
      held_same xs ys held few less (λ p l. h (suc p) (omega arith)),
    )
