-- An array that a closure makes, entry by entry, of a list and of zeros past its end.
--     padded      it is the list, written to a list of zeros
use Prim.Native.Nat.{ℕ, zero, suc, ◌+◌, ◌≤◌, ◌<◌}
use mathlib.Core.Path.{◌≡◌, refl, ap₂, subst, ◌∙◌}
use mathlib.Core.List.{List, [], ◌∷◌, map}
use native.Mathlib.Omega.{arith}
use denote.Param.Members.{Mut}
use lib.ListN.{length, get_or, replicate, length-map}
use Rattle.std.specs.Array.{IsFromFnResult, IsFromFnResultFrom}
use Rattle.std.specs.Fn.{Called}
use Rattle.basics.specs.Internal.Arrays.{written}

zeros_past_end :
    (n : ℕ) (xs ys : List ℕ) → length ys ≡ n → length xs ≤ n → ((i : ℕ) → i < n → get_or ys i 0 ≡ get_or xs i 0) →
    ys ≡ written xs (replicate n 0)
zeros_past_end zero [] [] long fits same = refl
zeros_past_end zero [] (y ∷ ys) long fits same = absurd (omega arith)
zeros_past_end zero (x ∷ xs) ys long fits same = absurd (omega arith)
zeros_past_end (suc n) xs [] long fits same = absurd (omega arith)
zeros_past_end (suc n) [] (y ∷ ys) long fits same =
    ap₂ ◌∷◌ (same 0 (omega arith)) (zeros_past_end n [] ys (omega arith) (omega arith) (λ i l. same (suc i) (omega arith)))
zeros_past_end (suc n) (x ∷ xs) (y ∷ ys) long fits same =
    ap₂ ◌∷◌ (same 0 (omega arith)) (zeros_past_end n xs ys (omega arith) (omega arith) (λ i l. same (suc i) (omega arith)))

module _ {A F : Type 0} (of : A → ℕ) (all : List A) (g : Mut F (ℕ × Unit {0}) ℕ) (f : F) (ys : List ℕ) where
  abbrev entry : ℕ → ℕ
  entry i = get_or (map of all) i 0

  abbrev Gives : Type 0
  Gives = (i y : ℕ) (q : F) → Called g f (i, tt) y q → (y ≡ entry i) × (q ≡ f)

  made_at : (n i k : ℕ) → IsFromFnResultFrom g f ys i n → Gives → k < n → get_or ys (i + k) 0 ≡ entry (i + k)
  made_at zero i k made gives l = absurd (omega arith)
  made_at (suc n) i zero made gives l =
      let here : i + 0 ≡ i = omega arith in
      rw here (made.2.1 0 ∙ (gives i made.1 made.0 made.3).0)
  made_at (suc n) i (suc k) made gives l =
      let next : i + suc k ≡ i + 1 + k = omega arith in
      let rest = subst (λ (q : F). IsFromFnResultFrom g q ys (i + 1) n) (gives i made.1 made.0 made.3).1 made.4 in
      rw next (made_at n (i + 1) k rest gives (omega arith))

  pub padded : (n : ℕ) → IsFromFnResult g f ys n → length all ≤ n → Gives → ys ≡ written (map of all) (replicate n 0)
  padded n made fits gives =
      zeros_past_end n (map of all) ys made.long (omega (arith, length-map all of))
      (λ i l.
      let place : 0 + i ≡ i = omega arith in
      rw place at (made_at n 0 i made.each gives l))
