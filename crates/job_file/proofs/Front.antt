-- A list that was copied to the front of an array.
--     in_front    it is the array's first entries
use Prim.Native.Nat.{ℕ}
use mathlib.Core.Path.{◌≡◌}
use mathlib.Core.List.{List}
use lib.ListN.{length, take}
use Rattle.std.proofs.Math.Seq.{take-append_seam}
use Rattle.basics.specs.Internal.Arrays.{written}

pub in_front :
    {A : Type 0} (list before after : List A) (count : ℕ) →
    count ≡ length list → after ≡ written list before → take count after ≡ list
in_front list before after count is copied = rw (is, copied) (take-append_seam list _)
