-- What every taken line keeps, a whole part keeps: `lines` takes one line after the other, so a claim that each taken line
-- hands on holds where no byte is left.
--     Taken        what a line that is taken was: the numbers read, and that neither cause 5 nor 6 met it
--     taken_was    a line is taken only so
--     taken_is     such a line is taken
--     keep         a claim about the lines left, the entries so far and the bytes left, handed on by each taken line
use Prim.Native.Nat.{ℕ, zero, suc, ◌-◌}
use mathlib.Core.Path.{◌≡◌, refl, subst}
use mathlib.Core.Bool.{Bool, true, false, not}
use mathlib.Core.List.{List, [], ◌∷◌, ◌++◌, map}
use lib.Dec.{T}
use lib.ListN.{length}
use Rattle.causes.specs.declared.Cause.TheVariants.{LineForm, NumberValue, RepeatedId}
use Rattle.std.specs.Prelude.{if◌then◌else◌}
use Rattle.job_line.specs.Bytes.{next, Found, found, nothing}
use Rattle.job_line.specs.Line.{line}
use Rattle.ids.specs.Ids.{among}
use Rattle.job_part.specs.Part.{Form, Judged, taken, faulty, judged_entry, judged, whole, stopped, lines}

pub record Taken {A : Type 0} (form : Form A) (earlier : List A) (bytes : List ℕ) (x : A) (rest : List ℕ) : Type 0 where
  pub numbers : List ℕ
  pub read : line form.takes form.count bytes ≡ found numbers rest
  pub says : form.entry (next bytes) numbers ≡ x
  pub allowed : T (form.allowed x)
  pub new : T (not (among (form.id x) (map form.id earlier)))

module _ {A : Type 0} (form : Form A) where
  -- The two tests of an entry: an entry that is taken passed them, and one that passes them is taken.
  gates :
      (a m : Bool) (x y : A) (rest rest' : List ℕ) →
      (if not a then faulty NumberValue else if m then faulty RepeatedId else taken x rest) ≡ taken y rest' →
      T a × T (not m) × (x ≡ y) × (rest ≡ rest')
  gates true false x y rest rest' e = (tt, tt, cc, cc)
  gates false m x y rest rest' e = cc
  gates true true x y rest rest' e = cc

  pub taken_was :
      (earlier : List A) (bytes : List ℕ) (x : A) (rest : List ℕ) →
      judged form (map form.id earlier) bytes ≡ taken x rest →
      Taken form earlier bytes x rest
  unfolding judged judged_entry
  taken_was earlier bytes x rest = go (line form.takes form.count bytes) refl
    where
      go :
          (f : Found (List ℕ)) → line form.takes form.count bytes ≡ f →
          elim f [
            | found ns after ↦ judged_entry form (map form.id earlier) (form.entry (next bytes) ns) after
            | nothing ↦ faulty LineForm
          ] ≡ taken x rest → Taken form earlier bytes x rest
      go (found ns after) q e =
          let y : A = form.entry (next bytes) ns in
          let g = gates (form.allowed y) (among (form.id y) (map form.id earlier)) y x after rest e in
          record {
            numbers = ns;
            read = cc;
            says = g.2;
            allowed = rw g.2 at g.0;
            new = rw g.2 at g.1;
          }
      go nothing q e = cc

  passes :
      (a m : Bool) (x : A) (rest : List ℕ) →
      T a →
      T (not m) →
      (if not a then faulty NumberValue else if m then faulty RepeatedId else taken x rest) ≡ taken x rest
  passes true false x rest h k = refl
  passes false m x rest h k = absurd h
  passes true true x rest h k = absurd k

  pub taken_is :
      (earlier : List A) (bytes : List ℕ) (x : A) (rest : List ℕ) →
      Taken form earlier bytes x rest →
      judged form (map form.id earlier) bytes ≡ taken x rest
  unfolding judged judged_entry
  taken_is earlier bytes x rest t =
      rw (judged, t.read, t.says)
      (passes (form.allowed x) (among (form.id x) (map form.id earlier)) x rest t.allowed t.new)

  module _
      (P : ℕ → List A → List ℕ → Type 0)
      (step :
      (left : ℕ) (earlier : List A) (b : ℕ) (bytes : List ℕ) (x : A) (rest : List ℕ) →
      P (suc left) earlier (b ∷ bytes) →
      Taken form earlier (b ∷ bytes) x rest →
      P left (earlier ++ (x ∷ [])) rest)
      (end : ℕ)
    where
      -- where no byte is left
      kept : (left : ℕ) (earlier xs : List A) → whole earlier ≡ whole xs → P left earlier [] → (last : ℕ) × P last xs []
      kept left earlier xs e p = (left, subst (λ l. P left l []) (cc) p)

      pub keep :
          (left : ℕ) (earlier : List A) (bytes : List ℕ) (xs : List A) →
          lines form end left earlier bytes ≡ whole xs →
          P left earlier bytes →
          (last : ℕ) × P last xs []
      unfolding lines
      keep zero earlier [] xs e p = kept zero earlier xs e p
      keep zero earlier (b ∷ bytes) xs e p = cc
      keep (suc left) earlier [] xs e p = kept (suc left) earlier xs e p
      keep (suc left) earlier (b ∷ bytes) xs e p =
          go (λ x rest. keep left (earlier ++ (x ∷ [])) rest xs) (judged form (map form.id earlier) (b ∷ bytes)) refl e
        where
          go :
              ((x : A) (rest : List ℕ) →
              lines form end left (earlier ++ (x ∷ [])) rest ≡ whole xs →
              P left (earlier ++ (x ∷ [])) rest →
              (last : ℕ) × P last xs []) →
              (j : Judged A) → judged form (map form.id earlier) (b ∷ bytes) ≡ j →
              elim j [
                | taken x rest ↦ lines form end left (earlier ++ (x ∷ [])) rest
                | faulty cause ↦ stopped cause (end - length (b ∷ bytes))
              ] ≡ whole xs →
              (last : ℕ) × P last xs []
          go next (taken x rest) q f = next x rest f (step left earlier b bytes x rest p (taken_was earlier (b ∷ bytes) x rest q))
          go next (faulty cause) q f = cc
