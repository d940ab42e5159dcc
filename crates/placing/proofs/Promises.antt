-- The promise of `place`, by what the file says and how long the lent lists are.
--     promised_refusal    the file is refused
--     promised_short      a lent list is shorter than the number of panes
--     promised_counted    neither
--     counted_of          what the promise says then
use Prim.Native.Nat.{ℕ, ◌≤◌, ◌<◌, min}
use mathlib.Core.Path.{◌≡◌, refl}
use mathlib.Core.Bool.{Bool, true, false, ◌||◌}
use mathlib.Core.List.{List}
use native.Mathlib.Omega.{arith}
use lib.Dec.{ltb}
use lib.ListN.{length}
use borrow.Author.Tests.{lt-ltb, le-ltb, ltb-false}
use Rattle.basics.specs.Lent.{lent}
use Rattle.causes.specs.Answer.{gives, refusal}
use Rattle.causes.specs.declared.Cause.{Cause}
use Rattle.causes.specs.declared.Cause.TheVariants.{ListTooShort}
use Rattle.job_glass.specs.declared.Glass.{Glass}
use Rattle.job_pane.specs.declared.Pane.{Pane}
use Rattle.job_file.specs.File.{Outcome, accepted, refused}
use Rattle.job_file.specs.Entries.{stocks_of}
use Rattle.row_placing.specs.Glazed.{Glazed}
use Rattle.row_placing.specs.declared.PlaceCounts.{PlaceCounts}
use Rattle.placing.specs.FileSchedule.{schedule_of}
use Rattle.placing.specs.Promise.{Call, call, RefusedCall, PlacedCall, Promised}

-- A list is too short where the shorter of the two is.
too_short : (a g n : ℕ) → min a g < n → (ltb a n || ltb g n) ≡ true
too_short a g n short = go (ltb a n) refl
  where
    go : (b : Bool) → ltb a n ≡ b → (b || ltb g n) ≡ true
    go true low = refl
    go false high = lt-ltb g n (omega (arith, ltb-false a n high))

module _ (o : Outcome) (answers group : List ℕ) where
  -- A call that is refused for a cause.
  abbrev kept : Cause → ℕ → Call
  kept cause offset = call (refusal cause offset) answers answers group group

  is_refusal : (cause : Cause) (offset : ℕ) → RefusedCall cause offset (kept cause offset)
  is_refusal cause offset = record { result_is = refl; answers_kept = refl; group_kept = refl }

  pub promised_refusal : (cause : Cause) (offset : ℕ) → o ≡ refused cause offset → Promised o (kept cause offset)
  unfolding Promised
  promised_refusal cause offset is = rw (is, Promised) (is_refusal cause offset)

  module _ (glasses : List Glass) (panes : List Pane) (is : o ≡ accepted glasses panes) where
    pub promised_short : min (length answers) (length group) < length panes → Promised o (kept ListTooShort 0)
    unfolding Promised
    promised_short short =
        rw (is, Promised, too_short (length answers) (length group) (length panes) short) (is_refusal ListTooShort 0)

    pub promised_counted :
        (counts : PlaceCounts) (answers_after group_after : List ℕ) → length panes ≤ min (length answers) (length group) →
        Glazed (schedule_of glasses (stocks_of glasses) panes) counts (lent answers answers_after) (lent group group_after) →
        Promised o (call (gives counts) answers answers_after group group_after)
    unfolding Promised
    promised_counted counts answers_after group_after long g =
        rw (
          is,
          Promised,
          le-ltb (length answers) (length panes) (omega arith),
          le-ltb (length group) (length panes) (omega arith),
        )
        (record { counts = counts; result_is = refl; glazed = g })

pub counted_of :
    (o : Outcome) (glasses : List Glass) (panes : List Pane) (c : Call) → o ≡ accepted glasses panes →
    length panes ≤ length c.answer_list.before → length panes ≤ length c.group_list.before → Promised o c →
    PlacedCall (schedule_of glasses (stocks_of glasses) panes) c
unfolding Promised
counted_of o glasses panes c is l k p =
    rw (
      is,
      Promised,
      le-ltb (length c.answer_list.before) (length panes) l,
      le-ltb (length c.group_list.before) (length panes) k,
    ) at p
