-- The place of an id in a list of ids, counted from 0. Where no id stands twice, there is one at most.
use Rattle.std.specs.Prelude.{ℕ, Option, List, nat_eq, position}

-- The place of the first entry that is this id.
unfoldable pub place_of : ℕ → List ℕ → Option ℕ
place_of id ids = position (λ other. nat_eq other id) ids
