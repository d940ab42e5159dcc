-- A set of ids, as bits: the id n is bit n % 64 of word n / 64.
use Rattle.std.specs.Prelude.{ℕ, ◌/◌, ◌%◌, ◌≡◌, Bool, List, get_or}
use Rattle.bits.specs.Internal.Bit.{has}
use Rattle.ids.specs.declared.sets.IdSet.{IdSet}
use Rattle.ids.specs.Ids.{among}

-- Whether an id's bit is set.
abbrev pub holds : List ℕ → ℕ → Bool
holds words id = has (get_or words (id / 64) 0) (id % 64)

-- The set is that of the ids of a list. It has words for every id up to 9999.
pub record SetOf (set : IdSet) (ids : List ℕ) : Type 0 where
  pub members : (id : ℕ) → holds set.words id ≡ among id ids
