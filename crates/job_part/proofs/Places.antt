-- The first entry that has an id stands at the place of the id among the entries' ids.
--     entry_at      what stands at a place that was found
--     entry_of_id   what is found is that
use Prim.Native.Nat.{ℕ}
use mathlib.Core.Path.{◌≡◌, refl, ap, sym, ◌∙◌}
use mathlib.Core.Bool.{Bool, true, false}
use mathlib.Core.List.{List, [], ◌∷◌, map}
use lib.ListN.{length, get_or, length-map}
use borrow.Author.Tests.{ltb-true, ltb-false}
use Rattle.std.specs.Prelude.{Option, Some, None, nat_eq, nat_lt, cond, find, position, slice_get}
use Rattle.std.specs.List.{position_or_len}
use Rattle.std.proofs.lemmas.List.Folds.{find_at}
use Rattle.std.proofs.lemmas.Option.{slice_get-get_or, slice_get_past}
use Rattle.ids.specs.Lookup.{place_of}

abbrev pub entry_at : {A : Type 0} → A → List A → Option ℕ → Option A
entry_at blank xs None = None
entry_at blank xs (Some place) = Some (get_or xs place blank)

module _ {A : Type 0} (f : A → ℕ) (id : ℕ) where
  past_others :
      (xs : List A) → position_or_len (λ other. nat_eq other id) (map f xs) ≡ position_or_len (λ x. nat_eq (f x) id) xs
  past_others [] = refl
  past_others (x ∷ xs) = rw (past_others xs)

  place_of_entry : (xs : List A) → place_of id (map f xs) ≡ position (λ x. nat_eq (f x) id) xs
  unfolding place_of
  place_of_entry xs = rw (past_others xs, length-map)

  module _ (blank : A) (xs : List A) where
    at : ℕ
    at = position_or_len (λ x. nat_eq (f x) id) xs

    by_position : find (λ x. nat_eq (f x) id) xs ≡ entry_at blank xs (position (λ x. nat_eq (f x) id) xs)
    unfolding at
    by_position = find_at (λ x. nat_eq (f x) id) xs ∙ go (nat_lt at (length xs)) refl
      where
        go : (within : Bool) → nat_lt at (length xs) ≡ within → slice_get xs at ≡ entry_at blank xs (cond within (Some at) None)
        go true e = slice_get-get_or xs at blank (ltb-true _ _ e)
        go false e = slice_get_past xs at (ltb-false _ _ e)

    pub entry_of_id : find (λ x. nat_eq (f x) id) xs ≡ entry_at blank xs (place_of id (map f xs))
    entry_of_id = by_position ∙ ap (entry_at blank xs) (sym (place_of_entry xs))
