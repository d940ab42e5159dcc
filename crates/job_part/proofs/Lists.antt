-- Lists whose entries all pass a test, by recursion on the list.
--     every_append  two lists, one behind the other
--     every_snoc    one entry more that passes the test
--     every_at      the entry at an index passes it
use Prim.Native.Nat.{ℕ, zero, suc, ◌<◌}
use mathlib.Core.Bool.{Bool}
use mathlib.Core.List.{List, [], ◌∷◌, ◌++◌}
use native.Mathlib.Omega.{arith}
use native.Mathlib.Nat.{le_of_suc-le-suc}
use lib.Dec.{T}
use lib.ListN.{length, get_or}
use Rattle.job_part.specs.Rules.{Every}

module _ {A : Type 0} where
  pub every_append : (test : A → Bool) (xs ys : List A) → Every test xs → Every test ys → Every test (xs ++ ys)
  unfolding Every
  every_append test [] ys h k = k
  every_append test (x ∷ xs) ys h k = (h.0, every_append test xs ys h.1 k)

  pub every_snoc : (test : A → Bool) (xs : List A) (x : A) → Every test xs → T (test x) → Every test (xs ++ (x ∷ []))
  unfolding Every
  every_snoc test xs x h t = every_append test xs (x ∷ []) h (t, tt)

  pub every_at :
      (test : A → Bool) (xs : List A) (blank : A) (i : ℕ) → Every test xs → i < length xs → T (test (get_or xs i blank))
  unfolding Every
  every_at test [] blank i h l = absurd (omega arith)
  every_at test (x ∷ xs) blank zero h l = h.0
  every_at test (x ∷ xs) blank (suc i) h l = every_at test xs blank i h.1 (le_of_suc-le-suc l)
