-- The way that a list of held glasses states, where a pane is given a glass, and what it says of the entries.
--     way_here        the pane has the glass
--     way_there       another pane has what it had
--     way_held        a pane whose entry is a glass holds it,
--     held_of_way     and the other way round
--     same_entry      entries with one number are the same
--     entries_are     each entry of a greatest matching is none or the number of a glass
use Rattle.std.proofs.Common.{ℕ, ◌+◌, ◌<◌, ◌≤◌, List, Option, Some, None, Bool, true, false, length, get_or, ltb, ◌≡◌, ◌⊎◌, refl, sym, ap, ◌∙◌, arith}
use mathlib.Core.Logic.{inl, inr}
use Rattle.std.proofs.Math.ListN.{set}
use Rattle.std.proofs.lemmas.List.{get_or-set_same, get_or-set_other}
use borrow.Author.Tests.{lt-ltb, ltb-true, ltb-false}
use Rattle.matching.specs.Internal.Matching.{Greatest}
use Rattle.matching.specs.Internal.Rows.{task_of, number_held, way_of, GlassOrNone, GlassesOrNone}

number_of_glass : (glass : ℕ) → glass < 64 → number_held (Some glass) ≡ glass
number_of_glass glass below = rw (lt-ltb glass 64 below) refl

pub way_here :
    (held : List (Option ℕ)) (pane glass : ℕ) → glass < 64 → pane < length held →
    way_of (set held pane (Some glass)) pane ≡ glass
way_here held pane glass below long =
    ap number_held (get_or-set_same held pane (Some glass) None long) ∙ number_of_glass glass below

pub way_there :
    (held : List (Option ℕ)) (pane p glass : ℕ) → (p ≡ pane → ⊥) →
    way_of (set held pane (Some glass)) p ≡ way_of held p
way_there held pane p glass other = ap number_held (get_or-set_other held pane p (Some glass) None other)

pub way_held : (entry : Option ℕ) (glass : ℕ) → glass < 64 → entry ≡ Some glass → number_held entry ≡ glass
way_held entry glass below same = ap number_held same ∙ number_of_glass glass below

-- What the number of an entry that has one can be: the glass, or, where no glass has it, the one above.
abbrev NumberOf : (h g : ℕ) → Type 0
NumberOf h g = ((h < 64) × (h ≡ g)) ⊎ ((64 ≤ h) × (h + 1 ≡ g))

number_cases : (h g : ℕ) → number_held (Some h) ≡ g → NumberOf h g
number_cases h g same = go (ltb h 64) refl
  where
    go : (x : Bool) → ltb h 64 ≡ x → NumberOf h g
    go true is = inl (ltb-true h 64 is, rw is at same)
    go false is = inr (ltb-false h 64 is, rw is at same)

number_of_none : (h : ℕ) → number_held (Some h) ≡ 64 → ⊥
number_of_none h same = go (number_cases h 64 same)
  where
    go : NumberOf h 64 → ⊥
    go (inl is) = omega (arith, is)
    go (inr is) = omega (arith, is)

pub same_entry : (a b : Option ℕ) → number_held a ≡ number_held b → a ≡ b
same_entry None None same = refl
same_entry None (Some h) same = absurd (number_of_none h (sym same))
same_entry (Some g) None same = absurd (number_of_none g same)
same_entry (Some g) (Some h) same = ap Some (go (number_cases g _ refl) (number_cases h _ refl))
  where
    go : NumberOf g (number_held (Some g)) → NumberOf h (number_held (Some h)) → g ≡ h
    go (inl a) (inl b) = omega (arith, same, a, b)
    go (inl a) (inr b) = omega (arith, same, a, b)
    go (inr a) (inl b) = omega (arith, same, a, b)
    go (inr a) (inr b) = omega (arith, same, a, b)

pub held_of_way : (entry : Option ℕ) (glass : ℕ) → glass < 64 → number_held entry ≡ glass → entry ≡ Some glass
held_of_way entry glass below same = same_entry entry (Some glass) (same ∙ sym (number_of_glass glass below))

pub entries_are :
    (rows sheets : List ℕ) (held : List (Option ℕ)) (tight : ℕ → Bool) →
    Greatest (task_of rows sheets) (way_of held) tight → GlassesOrNone rows held
entries_are rows sheets held tight best p l = go (get_or held p None) (best.or_none p l)
  where
    go : (entry : Option ℕ) → number_held entry ≤ 64 → GlassOrNone entry
    go None least = tt
    go (Some glass) least = is (number_cases glass _ refl)
      where
        is : NumberOf glass (number_held (Some glass)) → glass < 64
        is (inl one) = one.0
        is (inr over) = absurd (omega (arith, over, least))
