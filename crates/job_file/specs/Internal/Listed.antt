-- A list in an array of fixed size.
use Rattle.std.specs.Prelude.{ℕ, ◌≡◌, List, length, take, replicate}
use Rattle.basics.specs.Internal.Arrays.{written}

-- The first entries of an array of `room` are a list of `count`, and the others are blank.
abbrev pub Listed : {A : Type 0} (room : ℕ) (blank : A) (count : ℕ) (entries : List A) → Type 0
Listed room blank count entries =
    (length (take count entries) ≡ count) × (entries ≡ written (take count entries) (replicate room blank))
