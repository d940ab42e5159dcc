-- Glasses and panes are their lines' letters and numbers: an entry has one field for each number, but that of a wind has the last two
-- and says the letter, and no allowed value is over 99999. So what holds of every form with a writer holds of both.
--     written_glasses, written_panes    what is written for glasses or panes that keep the rules is read as those
--     glasses_read, panes_read          what is read as glasses or panes is what is written for them
use Prim.Native.Nat.{ℕ, zero, suc, ◌+◌, ◌≤◌}
use mathlib.Core.Path.{◌≡◌, refl, sym, ◌∙◌, ap}
use mathlib.Core.Logic.{⊎_elim}
use mathlib.Core.Bool.{Bool, true, false}
use mathlib.Core.List.{List, [], ◌∷◌}
use native.Mathlib.Omega.{arith}
use lib.Dec.{leb, eqb, le→leb}
use lib.ListN.{length, get_or, drop, drop_of_length-le}
use lib.Seq.{drop-cons}
use borrow.Author.Tests.{eqb-true}
use Rattle.std.specs.Prelude.{if◌then◌else◌}
use Rattle.job_line.specs.Bytes.{letter_g, letter_p, letter_q}
use Rattle.job_glass.specs.GlassLine.{glass_form}
use Rattle.job_pane.specs.StatedWind.{wind_of}
use Rattle.job_pane.specs.OtherWind.{with_wind}
use Rattle.job_pane.specs.PaneLine.{takes_pane, pane_form}
use Rattle.job_pane.specs.Internal.Values.{WindValues}
use Rattle.job_part.specs.Part.{whole, part_lines}
use Rattle.job_part.specs.Rules.{Every, PartRules}
use Rattle.job_glass.specs.declared.Glass.{Glass}
use Rattle.job_pane.specs.declared.Pane.{Pane}
use Rattle.job_pane.specs.declared.Wind.{Wind}
use Rattle.job_pane.specs.declared.Wind.TheVariants.{ByPressure, ByClass}
use Rattle.job_part.proofs.Lists.{every_append}
use Rattle.job_glass.proofs.Values.{allowed_glass_lem}
use Rattle.job_pane.proofs.Values.{allowed_pane_lem}
use Rattle.job_grammar.specs.Written.{glass_numbers, written_glass, wind_letter, wind_numbers, pane_numbers, written_pane, written_part}
use Rattle.job_grammar.proofs.Line.{Small}
use Rattle.job_grammar.proofs.Parts.{Writer, written_part_lem, part_read}

-- The next `count` numbers from an index on.
numbers_from : ℕ → ℕ → List ℕ → List ℕ
numbers_from zero at ns = []
numbers_from (suc count) at ns = get_or ns at 0 ∷ numbers_from count (suc at) ns

numbers_from_lem : (count at : ℕ) (ns : List ℕ) → length ns ≡ at + count → numbers_from count at ns ≡ drop at ns
unfolding numbers_from
numbers_from_lem zero at ns e = sym (drop_of_length-le ns {i = at} (omega arith))
numbers_from_lem (suc count) at ns e =
    ap (λ l. get_or ns at 0 ∷ l) (numbers_from_lem count (suc at) ns (omega arith)) ∙ sym (drop-cons ns at 0 (omega arith))

glass_writer : Writer glass_form (λ g. letter_g) glass_numbers
unfolding numbers_from Every
glass_writer = record {
  takes_letter = λ g. refl;
  takes_no_zero = refl;
  count_is = λ g. refl;
  entry_of = λ g. refl;
  letter_of_entry = λ letter ns known. sym (eqb-true letter letter_g known);
  of_entry = λ letter ns e. numbers_from_lem 8 0 ns e;
  small = λ g h.
      let v = allowed_glass_lem g h in
      let thick : g.thick ≤ 12 =
      ⊎_elim (λ e. omega arith) (⊎_elim (λ e. omega arith) (⊎_elim (λ e. omega arith) (λ e. omega arith)))
      v.thick_is in
      omega (arith, le→leb);
}

-- A wind is its letter and its two numbers.
wind_taken : (wind : Wind) → takes_pane (wind_letter wind) ≡ true
wind_taken (ByPressure down up) = refl
wind_taken (ByClass class zone) = refl

two_numbers : (wind : Wind) → length (wind_numbers wind) ≡ 2
two_numbers (ByPressure down up) = refl
two_numbers (ByClass class zone) = refl

wind_is : (wind : Wind) → wind_of (wind_letter wind) (get_or (wind_numbers wind) 0 0) (get_or (wind_numbers wind) 1 0) ≡ wind
wind_is (ByPressure down up) = refl
wind_is (ByClass class zone) = refl

letter_of_wind : (letter first second : ℕ) → takes_pane letter ≡ true → wind_letter (wind_of letter first second) ≡ letter
letter_of_wind letter first second known = go (eqb letter letter_q) (eqb letter letter_p) refl refl
  where
    go :
        (q p : Bool) → eqb letter letter_q ≡ q → eqb letter letter_p ≡ p →
        wind_letter (wind_of letter first second) ≡ letter
    go true p is_q is_p = rw is_q (sym (eqb-true letter letter_q is_q))
    go false true is_q is_p = rw is_q (sym (eqb-true letter letter_p is_p))
    go false false is_q is_p = let none : takes_pane letter ≡ false = rw (is_p, is_q) in cc

numbers_of_wind : (letter first second : ℕ) → wind_numbers (wind_of letter first second) ≡ first ∷ second ∷ []
numbers_of_wind letter first second = go (eqb letter letter_q)
  where
    go : (q : Bool) → wind_numbers (if q then ByClass first second else ByPressure first second) ≡ first ∷ second ∷ []
    go true = refl
    go false = refl

small_wind : (wind : Wind) → WindValues wind → Small (wind_numbers wind)
unfolding Every
small_wind (ByPressure down up) values = omega (arith, le→leb)
small_wind (ByClass class zone) values = omega (arith, le→leb)

pane_writer : Writer pane_form (λ p. wind_letter p.wind) pane_numbers
unfolding numbers_from Every
pane_writer = record {
  takes_letter = λ p. wind_taken p.wind;
  takes_no_zero = refl;
  count_is = λ p. rw (two_numbers p.wind);
  entry_of = λ p i. with_wind (wind_is p.wind i) p;
  letter_of_entry = λ letter ns known. letter_of_wind letter (get_or ns 7 0) (get_or ns 8 0) known;
  of_entry = λ letter ns e. rw (numbers_of_wind letter (get_or ns 7 0) (get_or ns 8 0)) (numbers_from_lem 9 0 ns e);
  small = λ p h.
      let v = allowed_pane_lem p h in
      let edges : p.edges ≤ 4 = ⊎_elim (λ e. omega arith) (λ e. omega arith) v.edges_is in
      let others : List ℕ = p.id ∷ p.edges ∷ p.angle ∷ p.awning ∷ p.top ∷ p.w ∷ p.h ∷ [] in
      every_append (λ n. leb n 99999) others (wind_numbers p.wind) (omega (arith, le→leb)) (small_wind p.wind v.wind_is);
}

module _ (end : ℕ) where
  pub written_glasses :
      (gs : List Glass) → PartRules glass_form gs → part_lines glass_form end (written_part written_glass gs) ≡ whole gs
  unfolding written_glass
  written_glasses = written_part_lem glass_form (λ g. letter_g) glass_numbers glass_writer end

  pub written_panes :
      (ps : List Pane) → PartRules pane_form ps → part_lines pane_form end (written_part written_pane ps) ≡ whole ps
  unfolding written_pane
  written_panes = written_part_lem pane_form (λ p. wind_letter p.wind) pane_numbers pane_writer end

  pub glasses_read :
      (bytes : List ℕ) (gs : List Glass) → part_lines glass_form end bytes ≡ whole gs → bytes ≡ written_part written_glass gs
  unfolding written_glass
  glasses_read = part_read glass_form (λ g. letter_g) glass_numbers glass_writer end

  pub panes_read :
      (bytes : List ℕ) (ps : List Pane) → part_lines pane_form end bytes ≡ whole ps → bytes ≡ written_part written_pane ps
  unfolding written_pane
  panes_read = part_read pane_form (λ p. wind_letter p.wind) pane_numbers pane_writer end
