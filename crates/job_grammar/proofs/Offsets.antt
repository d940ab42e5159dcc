-- Where the bytes of a file stand: notes, two parts and a trailer of 14 bytes behind one another are found by their offsets,
-- and a file taken apart at its offsets is what was taken, put behind one another.
--     size, trailer_of, first_part, second_part    of four lists behind one another, the last of 14 bytes
--     taken_apart                                  a file is its notes, its two parts and its trailer
--     length_part                                  a part is as long as its offsets say
use Prim.Native.Nat.{ℕ, ◌+◌, ◌-◌, ◌≤◌}
use mathlib.Core.Path.{◌≡◌, refl, sym, ◌∙◌, ap}
use mathlib.Core.List.{List, ◌++◌, append_assoc}
use native.Mathlib.Omega.{arith}
use lib.ListN.{length, take, drop, length-append, take-append-drop, length-take, length-drop}
use lib.Seq.{take_at, drop_at, drop-drop}
use Rattle.job_file.specs.File.{part}

part_of :
    (before bytes behind : List ℕ) (from to : ℕ) →
    length before ≡ from →
    from + length bytes ≡ to →
    part (before ++ (bytes ++ behind)) from to ≡ bytes
part_of before bytes behind from to l k =
    rw (drop_at before (bytes ++ behind) from l) (take_at bytes behind (to - from) (omega arith))

module _ (notes first second end : List ℕ) (l : length end ≡ 14) where
  pub size : length (notes ++ (first ++ (second ++ end))) ≡ length notes + length first + length second + 14
  size = simp length-append (omega arith)

  pub trailer_of :
      let file : List ℕ = notes ++ (first ++ (second ++ end)) in
      drop (length file - 14) file ≡ end
  trailer_of =
      let file : List ℕ = notes ++ (first ++ (second ++ end)) in
      let apart : file ≡ (notes ++ (first ++ second)) ++ end = simp append_assoc in
      rw apart (drop_at (notes ++ (first ++ second)) end (length ((notes ++ (first ++ second)) ++ end) - 14)
      (simp length-append (omega arith)))

  pub first_part : part (notes ++ (first ++ (second ++ end))) (length notes) (length notes + length first) ≡ first
  first_part = part_of notes first (second ++ end) (length notes) (length notes + length first) refl refl

  pub second_part :
      let file : List ℕ = notes ++ (first ++ (second ++ end)) in
      part file (length notes + length first) (length file - 14) ≡ second
  second_part =
      let file : List ℕ = notes ++ (first ++ (second ++ end)) in
      let apart : file ≡ (notes ++ first) ++ (second ++ end) = simp append_assoc in
      let last : length file - 14 ≡ length notes + length first + length second = omega (arith, size) in
      rw (last, apart)
      (part_of (notes ++ first) second end (length notes + length first) (length notes + length first + length second)
      (length-append notes first)
      refl)

next_part : (file : List ℕ) (from to : ℕ) → from ≤ to → part file from to ++ drop to file ≡ drop from file
next_part file from to l =
    let there : from + (to - from) ≡ to = omega arith in
    ap (λ i. part file from to ++ drop i file) (sym there)
    ∙ ap (λ r. part file from to ++ r) (sym (drop-drop (to - from) from file))
    ∙ take-append-drop (to - from) (drop from file)

pub taken_apart :
    (file : List ℕ) (glass pane end : ℕ) →
    glass ≤ pane →
    pane ≤ end →
    file ≡ take glass file ++ (part file glass pane ++ (part file pane end ++ drop end file))
taken_apart file glass pane end l k =
    sym
    (ap (λ r. take glass file ++ r)
    (ap (λ r. part file glass pane ++ r) (next_part file pane end k) ∙ next_part file glass pane l)
    ∙ take-append-drop glass file)

pub length_part : (file : List ℕ) (from to : ℕ) → to ≤ length file → length (part file from to) ≡ to - from
length_part file from to l = simp (length-take, length-drop) (omega arith)
