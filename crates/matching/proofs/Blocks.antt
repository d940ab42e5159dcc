-- The panes that hold a glass, by the first holder of some panes that follow one another.
--     block_none      none of these panes holds it
--     block_holder    one of them is the first
use Rattle.std.proofs.Common.{ℕ, ◌+◌, ◌-◌, ◌≤◌, ◌<◌, List, Option, Some, None, length, get_or, take, drop, ◌≡◌, ◌⊎◌, sym, ap, ◌∙◌, arith}
use mathlib.Core.Logic.{inl, inr}
use Rattle.std.proofs.lemmas.Bool.{cases_lt}
use Rattle.std.proofs.lemmas.List.{get_or-drop, get_or-take, length-drop, length-take-le}
use Rattle.matching.specs.Internal.Holders.{NoneBefore, Holder}

-- Up to `start` no pane holds the glass, and the next n panes are looked at.
module _
    (held : List (Option ℕ)) (glass from start n : ℕ) (fits : start + n ≤ length held)
    (b : NoneBefore held glass from start)
  where
    abbrev block : List (Option ℕ)
    block = take n (drop start held)

    long : length block ≡ n
    long = length-take-le n (drop start held) (omega (arith, length-drop start held))

    entry : (i : ℕ) → i < n → get_or block i None ≡ get_or held (start + i) None
    entry i l = get_or-take n (drop start held) i None l ∙ get_or-drop start held i None

    none_to : (to : ℕ) → to ≤ n → NoneBefore block glass 0 to → NoneBefore held glass from (start + to)
    none_to to l none = record {
      from_on = omega (arith, b.from_on);
      within = omega arith;
      none = λ p k m e. go p k m e (cases_lt p start);
    }
      where
        go : (p : ℕ) → from ≤ p → p < start + to → get_or held p None ≡ Some glass → (p < start) ⊎ (start ≤ p) → ⊥
        go p k m e (inl before) = b.none p k before e
        go p k m e (inr behind) =
            none.none (p - start) (omega arith) (omega arith)
            (entry (p - start) (omega arith) ∙ ap (λ (i : ℕ). get_or held i None) (omega arith) ∙ e)

    pub block_none : (end : ℕ) → end ≡ start + n → NoneBefore block glass 0 (length block) → NoneBefore held glass from end
    block_none end e none = rw e (none_to n (omega arith) (rw long at none))

    pub block_holder : (at : ℕ) → Holder block glass 0 at → Holder held glass from (start + at)
    block_holder at h =
        let inside : at < n = omega (arith, h.within, long) in record {
          within = omega arith;
          holds = sym (entry at inside) ∙ h.holds;
          first = none_to at (omega arith) h.first;
        }
