-- Which ids stand in a list, and among the first of it.
--     among_append   among two lists: among the one or the other
--     among_last     among a list and one id more: among the list, or that id
--     among_found    one of the first: among them
--     among_all      what holds of each entry holds of every id that stands in the list
use Prim.Native.Nat.{ℕ, zero, suc, ◌≤◌, ◌<◌}
use mathlib.Core.Path.{◌≡◌, refl, ap, sym, subst, ◌∙◌}
use mathlib.Core.Bool.{Bool, true, false, ◌||◌, or_assoc, or-true, or-false}
use mathlib.Core.List.{List, [], ◌∷◌, ◌++◌}
use native.Mathlib.Omega.{arith}
use lib.Dec.{eqb}
use lib.ListN.{length, get_or, take}
use borrow.Author.Tests.{eqb-true, eq-eqb}
use Rattle.basics.proofs.Tests.{differ}
use Rattle.ids.specs.Ids.{among}

pub among_append : (n : ℕ) (xs ys : List ℕ) → among n (xs ++ ys) ≡ among n xs || among n ys
unfolding among
among_append n [] ys = refl
among_append n (x ∷ xs) ys =
    ap (λ (b : Bool). eqb x n || b) (among_append n xs ys) ∙ sym (or_assoc (eqb x n) (among n xs) (among n ys))

pub among_last : (n : ℕ) (xs : List ℕ) (x : ℕ) → among n (xs ++ (x ∷ [])) ≡ (among n xs || eqb x n)
unfolding among
among_last n xs x = rw (among_append n xs (x ∷ []), or-false (eqb x n))

pub among_found : (n : ℕ) (xs : List ℕ) (i count : ℕ) → i < count → count ≤ length xs → get_or xs i 0 ≡ n → among n (take count xs) ≡ true
unfolding among
among_found n [] i zero h l e = absurd (omega arith)
among_found n [] i (suc count) h l e = absurd (omega arith)
among_found n (x ∷ xs) i zero h l e = absurd (omega arith)
among_found n (x ∷ xs) zero (suc count) h l e = rw (eq-eqb x n e)
among_found n (x ∷ xs) (suc i) (suc count) h l e =
    rw (among_found n xs i count (omega arith) (omega arith) e) (or-true (eqb x n))

pub among_all :
    (P : ℕ → Type 0) (xs : List ℕ) → ((k : ℕ) → k < length xs → P (get_or xs k 0)) → (n : ℕ) → among n xs ≡ true → P n
unfolding among
among_all P [] each n e = differ e refl
among_all P (x ∷ xs) each n e = go (eqb x n) refl e (among_all P xs (λ k l. each (suc k) (omega arith)) n)
  where
    go : (b : Bool) → eqb x n ≡ b → (b || among n xs) ≡ true → (among n xs ≡ true → P n) → P n
    go true is e later = subst P (eqb-true x n is) (each 0 (omega arith))
    go false is e later = later e
