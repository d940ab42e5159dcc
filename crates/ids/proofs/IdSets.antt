-- Sets of ids: the set of none, and what a store to a word makes of every id.
--     set_none    no id is in a set of zeros
--     set_bit     the lowest bit of the word, shifted down by an id's bit, says whether the id is in the set
--     set_more    with the bit of an id set in its word, the ids of a list and that one
use Prim.Native.Nat.{ℕ, ◌*◌, ◌/◌, ◌%◌, ◌^◌, ◌≤◌}
use mathlib.Core.Path.{◌≡◌, refl, ap, sym, ◌∙◌}
use mathlib.Core.Bool.{Bool, true, false, ◌||◌, or-false}
use mathlib.Core.List.{List, [], ◌∷◌, ◌++◌}
use native.Mathlib.Omega.{arith}
use borrow.Author.Tests.{eqb-true, eqb-false, eq-eqb, ne_eqb}
use lib.Bits.{bit_and, bit_or, and_mask}
use lib.Dec.{eqb}
use lib.ListN.{length, get_or, set, replicate}
use lib.Seq.{get_or-set_same, get_or-set_other}
use Rattle.basics.proofs.Lent.{zeros_at}
use Rattle.bits.specs.Internal.Bit.{has}
use Rattle.bits.proofs.Bits.{has_none, has_or, has_one}
use Rattle.ids.specs.Internal.IdSets.{SetOf}
use Rattle.ids.specs.Ids.{among}
use Rattle.ids.proofs.Members.{among_last}

pub set_none : SetOf (record { words = replicate 157 0 }) []
unfolding among
set_none = record { members = λ id. rw (zeros_at 157 (id / 64)) (has_none (id % 64)) }

pub set_bit :
    (words ids : List ℕ) (id : ℕ) → SetOf (record { words = words }) ids →
    eqb (bit_and (get_or words (id / 64) 0 / 2 ^ (id % 64)) 1) 1 ≡ among id ids
unfolding has
set_bit words ids id s = rw (and_mask _ 1) (s.members id)

-- Two ids of one word differ in their bits.
same_bit : (id new : ℕ) → id / 64 ≡ new / 64 → eqb (id % 64) (new % 64) ≡ eqb new id
same_bit id new word = go (eqb new id) refl
  where
    go : (t : Bool) → eqb new id ≡ t → eqb (id % 64) (new % 64) ≡ t
    go true e = eq-eqb (id % 64) (new % 64) (ap (λ (n : ℕ). n % 64) (sym (eqb-true new id e)))
    go false e = ne_eqb (id % 64) (new % 64) (λ bit. eqb-false new id e (omega (arith, word, bit)))

pub set_more :
    (words ids : List ℕ) (new : ℕ) → length words ≡ 157 → new ≤ 9999 → SetOf (record { words = words }) ids →
    SetOf
    (record { words = set words (new / 64) (bit_or (get_or words (new / 64) 0) (1 * 2 ^ (new % 64) % 2 ^ 64)) })
    (ids ++ (new ∷ []))
set_more words ids new room small s = record {
  members = λ id.
      go id (eqb (id / 64) (new / 64)) refl
      ∙ ap (λ (t : Bool). t || eqb new id) (s.members id)
      ∙ sym (among_last id ids new);
}
  where
    word : ℕ
    word = bit_or (get_or words (new / 64) 0) (1 * 2 ^ (new % 64) % 2 ^ 64)

    go :
        (id : ℕ) (t : Bool) → eqb (id / 64) (new / 64) ≡ t →
        has (get_or (set words (new / 64) word) (id / 64) 0) (id % 64) ≡ (has (get_or words (id / 64) 0) (id % 64) || eqb new id)
    go id true e =
        let same : id / 64 ≡ new / 64 = eqb-true (id / 64) (new / 64) e in
        rw (
          same,
          get_or-set_same words (new / 64) word 0 (omega (arith, room)),
          has_or (get_or words (new / 64) 0) (1 * 2 ^ (new % 64) % 2 ^ 64) (id % 64),
          has_one (new % 64) (id % 64) (omega arith),
          same_bit id new same,
        )
    go id false e =
        let other : id / 64 ≡ new / 64 → ⊥ = eqb-false (id / 64) (new / 64) e in
        rw (
          get_or-set_other words (new / 64) (id / 64) word 0 other,
          ne_eqb new id (λ same. other (ap (λ (n : ℕ). n / 64) (sym same))),
        )
        (sym (or-false (has (get_or words (id / 64) 0) (id % 64))))
