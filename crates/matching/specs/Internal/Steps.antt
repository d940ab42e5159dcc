-- What each call of the search asks and leaves. `rows` has a set of glasses for each pane, and `held` the glass that it has,
-- if any. `spare` is the set of the glasses with a sheet to spare, and `seen` that of the glasses that may not be looked at.
use Rattle.std.specs.Prelude.{ℕ, ◌+◌, ◌≤◌, ◌<◌, ◌≡◌, ◌⊎◌, Bool, true, false, not, List, Option, Result, Ok, Err, eqb, length, get_or}
use Rattle.ranges.specs.Internal.Counts.{one, count_to}
use Rattle.glass_set.specs.Internal.Member.{has, Within, unvisited}
use Rattle.matching.specs.Internal.Rows.{way_of}
use Rattle.matching.specs.declared.search.Stuck.{Stuck}

-- A glass that may still be looked at.
pub record Unseen (seen g : ℕ) : Type 0 where
  pub below : g < 64
  pub out : has seen g ≡ false

-- How many panes hold a glass.
abbrev pub holding : List ℕ → List (Option ℕ) → ℕ → ℕ
holding rows held g = count_to (λ p. eqb (way_of held p) g) (length rows)

-- A glass with no sheet to spare, whose holders can have none but glasses of a set.
pub record Exhausted (rows : List ℕ) (held : List (Option ℕ)) (spare set g : ℕ) : Type 0 where
  pub none_spare : has spare g ≡ false
  pub holders : (p : ℕ) → p < length rows → way_of held p ≡ g → Within (get_or rows p 0) set

-- A set that has grown from `seen` by exhausted glasses alone.
pub record Grown (rows : List ℕ) (held : List (Option ℕ)) (spare seen now : ℕ) : Type 0 where
  pub keeps : Within seen now
  pub exhausted : (g : ℕ) → g < 64 → has now g ≡ true → has seen g ≡ false → Exhausted rows held spare now g

-- What a chain of moves does to a pane: it stays, or it leaves for an unseen glass that passes for it.
pub data Move (rows : List ℕ) (before after : List (Option ℕ)) (seen p : ℕ) (Leaves : Type 0) : Type 0 where
  stays : way_of after p ≡ way_of before p → Move rows before after seen p Leaves
  moves :
      Leaves → Unseen seen (way_of after p) → has (get_or rows p 0) (way_of after p) ≡ true →
      Move rows before after seen p Leaves

-- Whether a chain moved a pane: whether the pane has another glass than before.
abbrev pub is_moved : (before after : List (Option ℕ)) → ℕ → Bool
is_moved before after p = not (eqb (way_of after p) (way_of before p))

-- Any two panes below n that were moved and now have one glass are the same pane.
abbrev pub NoGlassTwice : (before after : List (Option ℕ)) (n : ℕ) → Type 0
NoGlassTwice before after n =
    (p q : ℕ) → p < n → q < n → is_moved before after p ≡ true → is_moved before after q ≡ true →
    way_of after p ≡ way_of after q → p ≡ q

-- What a chain of moves leaves, from the glass that it frees to the last, whose spare sheet it takes: all other glasses are held as often as
-- before. Only panes that may leave do, to each glass one at most, and no more than there are unseen glasses: document 01, "The placing".
pub record Chain (rows : List ℕ) (before after : List (Option ℕ)) (spare seen from last : ℕ) (Leaves : ℕ → Type 0) : Type 0 where
  pub last_unseen : Unseen seen last
  pub last_spare : has spare last ≡ true
  pub counts :
      (g : ℕ) →
      holding rows after g + one (eqb from g) ≡ holding rows before g + one (eqb last g)
  pub each : (p : ℕ) → p < length rows → Move rows before after seen p (Leaves p)
  pub no_glass_twice : NoGlassTwice before after (length rows)
  pub few : count_to (is_moved before after) (length rows) ≤ unvisited seen

-- What `serve` asks: the pane holds no unseen glass.
pub record Servable (rows : List ℕ) (held : List (Option ℕ)) (pane seen : ℕ) : Type 0 where
  pub same_length : length held ≡ length rows
  pub of_rows : pane < length rows
  pub settled : Unseen seen (way_of held pane) → ⊥

-- What `serve` leaves: the pane itself moves, and otherwise panes that held an unseen glass; or nothing has changed.
pub record Served (rows : List ℕ) (before after : List (Option ℕ)) (pane spare seen last : ℕ) : Type 0 where
  pub chain :
      Chain rows before after spare seen (way_of before pane) last (λ p. (p ≡ pane) ⊎ Unseen seen (way_of before p))
  pub has_unseen : Unseen seen (way_of after pane)

pub record NotServed (rows : List ℕ) (before after : List (Option ℕ)) (pane spare seen now : ℕ) : Type 0 where
  pub unchanged : after ≡ before
  pub grown : Grown rows before spare seen now
  pub row_seen : Within (get_or rows pane 0) now

abbrev pub Serves : (rows : List ℕ) (before after : List (Option ℕ)) (pane spare seen : ℕ) → Result ℕ Stuck → Type 0
Serves rows before after pane spare seen (Ok last) = Served rows before after pane spare seen last
Serves rows before after pane spare seen (Err stuck) = NotServed rows before after pane spare seen stuck.seen

-- What `free` asks: the glass is one of the 64, and seen.
pub record Freeable (rows : List ℕ) (held : List (Option ℕ)) (glass seen : ℕ) : Type 0 where
  pub same_length : length held ≡ length rows
  pub below : glass < 64
  pub marked : has seen glass ≡ true

-- What `free` leaves: a pane that held the glass moves, and otherwise panes that held an unseen one; or nothing has changed.
abbrev pub Freed : (rows : List ℕ) (before after : List (Option ℕ)) (glass spare seen last : ℕ) → Type 0
Freed rows before after glass spare seen last =
    Chain rows before after spare seen glass last (λ p. (way_of before p ≡ glass) ⊎ Unseen seen (way_of before p))

pub record NotFreed (rows : List ℕ) (before after : List (Option ℕ)) (glass spare seen now : ℕ) : Type 0 where
  pub unchanged : after ≡ before
  pub grown : Grown rows before spare seen now
  pub rows_seen : (p : ℕ) → p < length rows → way_of before p ≡ glass → Within (get_or rows p 0) now

abbrev pub Frees : (rows : List ℕ) (before after : List (Option ℕ)) (glass spare seen : ℕ) → Result ℕ Stuck → Type 0
Frees rows before after glass spare seen (Ok last) = Freed rows before after glass spare seen last
Frees rows before after glass spare seen (Err stuck) = NotFreed rows before after glass spare seen stuck.seen
