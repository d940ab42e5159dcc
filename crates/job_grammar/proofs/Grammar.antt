-- The front page's statements. A file that is written has its parts where its trailer says, and each reads back. A file that
-- is accepted is its notes, its parts and its trailer, and each was written.
--     complete, sound, unique    as specs/Grammar.antt states them
use Prim.Native.Nat.{ℕ, ◌+◌, ◌-◌}
use mathlib.Core.Path.{◌≡◌}
use mathlib.Core.List.{List, ◌++◌}
use native.Mathlib.Omega.{arith}
use lib.ListN.{length, take, drop}
use lib.Seq.{length-take-le}
use Rattle.job_file.specs.File.{part, accepted, outcome_of}
use Rattle.job_glass.specs.declared.Glass.{Glass}
use Rattle.job_pane.specs.declared.Pane.{Pane}
use Rattle.job_file.proofs.Accepted.{Accepted, accepted_was, accepted_is, accepted_rules}
use Rattle.job_grammar.specs.Written.{written_glass, written_pane, written_part, written_trailer, written_file}
use Rattle.job_grammar.specs.Grammar.{IsWritten, Complete, Sound, Unique}
use Rattle.job_grammar.proofs.Forms.{written_glasses, written_panes, glasses_read, panes_read}
use Rattle.job_grammar.proofs.Trailer.{length_trailer, written_trailer_lem, trailer_read}
use Rattle.job_grammar.proofs.Offsets.{size, trailer_of, first_part, second_part, taken_apart, length_part}

pub complete : Complete
unfolding written_file
complete notes gs ps rules fits =
    let G : List ℕ = written_part written_glass gs in
    let P : List ℕ = written_part written_pane ps in
    let glass : ℕ = length notes in
    let pane : ℕ = length notes + length G in
    let end : List ℕ = written_trailer glass pane in
    let fourteen : length end ≡ 14 = length_trailer glass pane in
    let file : List ℕ = notes ++ (G ++ (P ++ end)) in
    let long : length file ≡ length notes + length G + length P + 14 = size notes G P end fourteen in
    accepted_is file gs ps
    (record {
      shortest = omega arith;
      longest = fits;
      glass = glass;
      pane = pane;
      trailer_says = rw (trailer_of notes G P end fourteen) (written_trailer_lem glass pane (omega arith) (omega arith));
      in_order = omega arith;
      within = omega arith;
      glass_part = rw (first_part notes G P end fourteen) (written_glasses pane gs rules.of_glasses);
      pane_part = rw (second_part notes G P end fourteen) (written_panes (length file - 14) ps rules.of_panes);
    })

-- An accepted file is what was read, as it is written.
module _ (file : List ℕ) (gs : List Glass) (ps : List Pane) (a : Accepted file gs ps) where
  wrote_glasses : part file a.glass a.pane ≡ written_part written_glass gs
  wrote_glasses = glasses_read a.pane _ gs a.glass_part

  wrote_panes : part file a.pane (length file - 14) ≡ written_part written_pane ps
  wrote_panes = panes_read (length file - 14) _ ps a.pane_part

  wrote_trailer : drop (length file - 14) file ≡ written_trailer a.glass a.pane
  wrote_trailer = trailer_read (drop (length file - 14) file) a.glass a.pane a.trailer_says

  at_glass : length (take a.glass file) ≡ a.glass
  at_glass = length-take-le a.glass file (omega arith)

  at_pane : a.glass + length (written_part written_glass gs) ≡ a.pane
  at_pane = rw (← wrote_glasses, length_part file a.glass a.pane (omega arith)) (omega arith)

  wrote_file : file ≡ written_file (take a.glass file) gs ps
  unfolding written_file
  wrote_file =
      rw (at_glass, at_pane, ← wrote_glasses, ← wrote_panes, ← wrote_trailer)
      (taken_apart file a.glass a.pane (length file - 14) a.in_order a.within)

pub sound : Sound
sound file gs ps e =
    let a = accepted_was file gs ps e in (
      record {
        glass = a.glass;
        pane = a.pane;
        trailer_says = a.trailer_says;
        glass_part = wrote_glasses file gs ps a;
        pane_part = wrote_panes file gs ps a;
      },
      record {
        notes = take a.glass file;
        bytes = wrote_file file gs ps a;
        rules = accepted_rules file gs ps e;
        fits = a.longest;
      },
    )

is_accepted : (file : List ℕ) (gs : List Glass) (ps : List Pane) → IsWritten file gs ps → outcome_of file ≡ accepted gs ps
is_accepted file gs ps w =
    rw w.bytes (complete w.notes gs ps w.rules (rw w.bytes at w.fits))

pub unique : Unique
unique = (
  λ file. (
    λ a. record {
      glasses = a.glasses;
      panes = a.panes;
      written = (sound file a.glasses a.panes a.outcome).1;
    },
    λ w. record {
      glasses = w.glasses;
      panes = w.panes;
      outcome = is_accepted file w.glasses w.panes w.written;
    },
  ),
  λ file gs gs' ps ps' w w'.
      let e = is_accepted file gs ps w in
      let e' = is_accepted file gs' ps' w' in
      (cc, cc),
)
