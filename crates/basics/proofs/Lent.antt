-- Laws of lists whose first entries a call writes, one after the other.
--     written_next         one entry more
--     zeros_at             an entry of a list of zeros, or past its end
--     wrote                the first entries and the later ones
--     map_next, map_long   entries that are worked out one by one: one more, and their number
--     written_map          such entries are written
use Prim.Native.Nat.{ℕ, zero, suc, ◌+◌, ◌≤◌, ◌<◌}
use mathlib.Core.Path.{◌≡◌, refl, ap, subst, ◌∙◌}
use mathlib.Core.List.{List, [], ◌∷◌, ◌++◌, map, map-append}
use native.Mathlib.Numerals.{add-one}
use native.Mathlib.Omega.{arith}
use lib.ListN.{length, get_or, set, take, drop, replicate, length-map}
use lib.Seq.{take-append_seam, drop-append_seam, take-suc, length-take-le}
use Rattle.basics.specs.Lent.{Lent, Wrote}
use Rattle.basics.specs.Internal.Arrays.{written}

module _ {A : Type 0} where
  pub written_next :
      (first before : List A) (x : A) → length first < length before →
      set (written first before) (length first) x ≡ written (first ++ (x ∷ [])) before
  written_next first [] x l = absurd (omega arith)
  written_next [] (b ∷ bs) x l = refl
  written_next (f ∷ fs) (b ∷ bs) x l = ap (λ (r : List A). f ∷ r) (written_next fs bs x (omega arith))

pub wrote : (first : List ℕ) (l : Lent) → l.after ≡ written first l.before → Wrote first l
wrote first l is = record {
  front = rw is (take-append_seam first (drop (length first) l.before));
  later_kept = rw is (drop-append_seam first (drop (length first) l.before));
}

pub zeros_at : (n i : ℕ) → ◌≡◌ {A = ℕ} (get_or (replicate n 0) i 0) 0
zeros_at zero i = refl
zeros_at (suc n) zero = refl
zeros_at (suc n) (suc i) = zeros_at n i

module _ {A : Type 0} (f : A → ℕ) (xs : List A) where
  pub map_next :
      (blank : A) (i : ℕ) → i < length xs → map f (take (i + 1) xs) ≡ map f (take i xs) ++ (f (get_or xs i blank) ∷ [])
  map_next blank i l = rw (add-one, take-suc xs i blank l, map-append f (take i xs) (get_or xs i blank ∷ []))

  pub map_long : (i : ℕ) → i ≤ length xs → length (map f (take i xs)) ≡ i
  map_long i l = length-map (take i xs) f ∙ length-take-le i xs l

  pub written_map :
      (blank : A) (i : ℕ) (before after : List ℕ) →
      i < length xs → i < length before → after ≡ written (map f (take i xs)) before →
      set after i (f (get_or xs i blank)) ≡ written (map f (take (i + 1) xs)) before
  written_map blank i before after l fits is =
      let long = map_long i (omega arith) in
      let first = map f (take i xs) in
      let x = f (get_or xs i blank) in
      rw (is, map_next blank i l)
      (subst (λ (k : ℕ). set (written first before) k x ≡ written (first ++ (x ∷ [])) before) long
      (written_next first before x (omega (arith, long))))
