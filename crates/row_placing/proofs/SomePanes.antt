-- Some panes of a schedule, each once, are stated by their own rows and ids, since what the schedule says of a pane goes with it.
-- The sheets may be others.
--     some_stated    they are stated
use Prim.Native.Nat.{ℕ, ◌<◌}
use mathlib.Core.Path.{◌≡◌, sym, ◌∙◌}
use mathlib.Core.List.{List}
use native.Mathlib.Omega.{arith}
use lib.ListN.{length, get_or, length-map}
use Rattle.ids.specs.Ids.{Distinct}
use Rattle.ids.proofs.Distinct.{distinct_at}
use Rattle.row_placing.specs.Schedule.{Schedule}
use Rattle.row_placing.specs.Internal.Entries.{entries_at, some_panes}
use Rattle.row_placing.specs.Internal.Stated.{Known, Stated}
use Rattle.row_placing.proofs.Entries.{entry_at}
use Rattle.row_placing.proofs.Numbers.{same_pane}

-- The panes at some places are as many as the places.
below : (s : Schedule) (places : List ℕ) (p : ℕ) → p < length (entries_at s.pane_ids places) → p < length places
below s places p l = omega (arith, length-map places (λ i. get_or s.pane_ids i 0))

some_known :
    {s : Schedule} → Known s → (places sheets : List ℕ) → Distinct places →
    ((p : ℕ) → p < length places → get_or places p 0 < length s.pane_ids) → Known (some_panes s places sheets)
some_known {s} known places sheets each_once within = record {
  few = known.few;
  id_low = known.id_low;
  id_high =
      λ p l.
      let here = below s places p l in
      rw (entry_at s.pane_ids places p here) (known.id_high (get_or places p 0) (within p here));
  glasses_differ = known.glasses_differ;
  panes_differ =
      λ i j l k same.
      let last = below s places j k in
      let first : i < length places = omega arith in
      distinct_at places i j each_once l last
      (same_pane known (get_or places i 0) (get_or places j 0) (within i first) (within j last)
      (sym (entry_at s.pane_ids places i first) ∙ same ∙ entry_at s.pane_ids places j last));
}

pub some_stated :
    {s : Schedule} {rows sheets64 glass_ids pane_ids : List ℕ} → Stated s rows sheets64 glass_ids pane_ids →
    (places sheets sheets64' : List ℕ) → Distinct places →
    ((p : ℕ) → p < length places → get_or places p 0 < length s.pane_ids) →
    ((g : ℕ) → g < length s.glass_ids → get_or sheets64' g 0 ≡ get_or sheets g 0) →
    Stated (some_panes s places sheets) (entries_at rows places) sheets64' glass_ids (entries_at pane_ids places)
some_stated {s} {rows} {sheets64} {glass_ids} {pane_ids} b places sheets sheets64' each_once within agree = record {
  known = some_known b.known places sheets each_once within;
  a_row_each = length-map places (λ i. get_or rows i 0) ∙ sym (length-map places (λ i. get_or s.pane_ids i 0));
  rows_are =
      λ p l g k.
      let here = below s places p l in
      rw (entry_at rows places p here) (b.rows_are (get_or places p 0) (within p here) g k);
  sheets_are = agree;
  glass_ids_are = b.glass_ids_are;
  pane_ids_are =
      λ p l.
      let here = below s places p l in
      entry_at pane_ids places p here
      ∙ b.pane_ids_are (get_or places p 0) (within p here)
      ∙ sym (entry_at s.pane_ids places p here);
}
