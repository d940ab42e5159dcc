-- How a call writes a list that its caller lends.
use Rattle.std.specs.Prelude.{ℕ, ◌≡◌, List, length, take, drop}

-- A lent list before a call and after it.
pub record Lent : Type 0 where
  pub before : List ℕ
  pub after : List ℕ

abbrev pub lent : List ℕ → List ℕ → Lent
lent before after = record { before = before; after = after }

-- The first entries were written and the later ones kept. Of no entries, the list is as it was. Where it had room for them, it keeps its
-- length.
pub record Wrote (first : List ℕ) (l : Lent) : Type 0 where
  pub front : take (length first) l.after ≡ first
  pub later_kept : drop (length first) l.after ≡ drop (length first) l.before
