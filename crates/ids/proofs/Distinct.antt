-- Lists of distinct ids, by recursion on the list: with one id more, and at an index.
--     distinct_snoc    one id more that is none of those before it
--     distinct_new     an id after others is none of them
--     distinct_at      two indices hold two ids
use Prim.Native.Nat.{ℕ, zero, suc, ◌<◌}
use mathlib.Core.Path.{◌≡◌, sym}
use mathlib.Core.Bool.{Bool, true, false, not, ◌||◌}
use mathlib.Core.List.{List, [], ◌∷◌, ◌++◌}
use native.Mathlib.Omega.{arith}
use native.Mathlib.Nat.{le_of_suc-le-suc}
use lib.Dec.{T, T_not, not_T, eqb, eqb→eq, eqb_refl}
use lib.ListN.{length, get_or, take}
use lib.Seq.{take-length}
use Rattle.ids.specs.Ids.{among, Distinct}
use Rattle.ids.proofs.Members.{among_append, among_found}

neither : (a b : Bool) → T (not (a || b)) → T (not a) × T (not b)
neither false b h = (tt, h)
neither true b h = absurd h

either_not : (a b : Bool) → T (not a) → T (not b) → T (not (a || b))
either_not false b h k = k
either_not true b h k = absurd h

other : (m n : ℕ) → T (not (eqb m n)) → T (not (eqb n m))
other m n h = not_T (eqb n m) (λ t. T_not (eqb m n) h (rw (eqb→eq n m t) (eqb_refl m)))

among_snoc : (m : ℕ) (ns : List ℕ) (n : ℕ) → T (not (among m ns)) → T (not (eqb m n)) → T (not (among m (ns ++ (n ∷ []))))
unfolding among
among_snoc m ns n h k =
    rw (among_append m ns (n ∷ []))
    (either_not (among m ns) (eqb n m || false) h (either_not (eqb n m) false (other m n k) tt))

pub distinct_snoc : (ns : List ℕ) (n : ℕ) → Distinct ns → T (not (among n ns)) → Distinct (ns ++ (n ∷ []))
unfolding Distinct among
distinct_snoc [] n h new = (tt, tt)
distinct_snoc (m ∷ ns) n h new =
    let apart = neither (eqb m n) (among n ns) new in
    (among_snoc m ns n h.0 apart.0, distinct_snoc ns n h.1 apart.1)

among_at : (n : ℕ) (ns : List ℕ) (i : ℕ) → i < length ns → n ≡ get_or ns i 0 → T (not (among n ns)) → ⊥
among_at n ns i l e h =
    let all : among n (take (length ns) ns) ≡ true = among_found n ns i (length ns) l (omega arith) (sym e) in
    rw (← take-length ns, all) at h

pub distinct_at : (ns : List ℕ) (i j : ℕ) → Distinct ns → i < j → j < length ns → get_or ns i 0 ≡ get_or ns j 0 → ⊥
unfolding Distinct
distinct_at [] i j h l k e = omega arith
distinct_at (n ∷ ns) i zero h l k e = omega arith
distinct_at (n ∷ ns) zero (suc j) h l k e = among_at n ns j (le_of_suc-le-suc k) e h.0
distinct_at (n ∷ ns) (suc i) (suc j) h l k e =
    distinct_at ns i j h.1 (le_of_suc-le-suc l) (le_of_suc-le-suc k) e

among_later : (m : ℕ) (ms : List ℕ) (n : ℕ) (ns : List ℕ) → T (not (among m (ms ++ (n ∷ ns)))) → T (not (eqb m n))
unfolding among
among_later m ms n ns h =
    let apart = neither (among m ms) (eqb n m || among m ns) (rw (among_append m ms (n ∷ ns)) at h) in
    other n m (neither (eqb n m) (among m ns) apart.1).0

pub distinct_new : (ms : List ℕ) (n : ℕ) (ns : List ℕ) → Distinct (ms ++ (n ∷ ns)) → T (not (among n ms))
unfolding Distinct among
distinct_new [] n ns h = tt
distinct_new (m ∷ ms) n ns h =
    either_not (eqb m n) (among n ms) (among_later m ms n ns h.0) (distinct_new ms n ns h.1)
