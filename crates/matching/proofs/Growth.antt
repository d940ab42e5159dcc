-- Sets of seen glasses that grow by exhausted ones.
--     unseen_back       what is unseen in the greater set is unseen in the smaller
--     within_with       a set is within itself with one glass more
--     exhausted_more    a glass that is exhausted in a set is so in a greater one
--     grown_more        a set that has grown, and grown again
use Prim.Native.Nat.{ℕ, ◌<◌}
use mathlib.Core.Path.{◌≡◌, refl, ◌∙◌}
use mathlib.Core.Bool.{Bool, true, false, ◌||◌, or-true}
use mathlib.Core.List.{List}
use Rattle.std.specs.Prelude.{Option}
use lib.Dec.{eqb}
use lib.ListN.{get_or}
use Rattle.glass_set.specs.Internal.Member.{has, Members, Within}
use Rattle.glass_set.proofs.Members.{within_trans, within_out}
use Rattle.matching.specs.Internal.Steps.{Unseen, Exhausted, Grown}

pub unseen_back : (a b g : ℕ) → Within a b → Unseen b g → Unseen a g
unseen_back a b g f u = record { below = u.below; out = within_out a b g f u.below u.out }

-- A set with one glass more.
pub within_with : (a b glass : ℕ) → Members b (λ g. eqb g glass || has a g) → Within a b
within_with a b glass m g l e = m g l ∙ rw e (or-true (eqb g glass))

module _ (rows : List ℕ) (held : List (Option ℕ)) (spare : ℕ) where
  pub exhausted_more : (a b g : ℕ) → Within a b → Exhausted rows held spare a g → Exhausted rows held spare b g
  exhausted_more a b g f x = record {
    none_spare = x.none_spare;
    holders = λ p l e. within_trans (get_or rows p 0) a b (x.holders p l e) f;
  }

  pub grown_more :
      (seen mid now : ℕ) → Grown rows held spare seen mid → Grown rows held spare mid now → Grown rows held spare seen now
  grown_more seen mid now a b = record {
    keeps = within_trans seen mid now a.keeps b.keeps;
    exhausted = λ g l e f. go g l e f (has mid g) refl;
  }
    where
      go :
          (g : ℕ) → g < 64 → has now g ≡ true → has seen g ≡ false → (x : Bool) → has mid g ≡ x →
          Exhausted rows held spare now g
      go g l e f true is = exhausted_more mid now g b.keeps (a.exhausted g l is f)
      go g l e f false is = b.exhausted g l e is
