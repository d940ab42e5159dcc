-- Laws of Table A2 as a whole, over every class that a file may have.
use Rattle.std.specs.Prelude.{ℕ, ◌≤◌, Bool, ◌&&◌, ◌||◌, T, leb}
use Rattle.wind_classes.specs.ClassPressures.{class_pressures}
use Rattle.wind_classes.specs.declared.Pressures.{Pressures}

abbrev pub is_class : ℕ → Bool
is_class class = leb 1 class && leb class 10

-- Whether two classes are both of N1 to N6 or both of C1 to C4, the second no lower than the first.
abbrev pub rises_to : (class other : ℕ) → Bool
rises_to class other = (leb 1 class && leb class other && leb other 6) || (leb 7 class && leb class other && leb other 10)

-- Neither pressure of the first is above the second's.
pub record NotAbove (a b : Pressures) : Type 0 where
  pub down : a.down ≤ b.down
  pub up : a.up ≤ b.up

pub record TableLaws : Type 0 where
  -- no pressure is above 10 kPa, the most that a pane line may state
  pub at_most : (class zone : ℕ) → T (is_class class) → NotAbove (class_pressures class zone) (record { down = 1000; up = 1000 })
  -- near edges the wind is no weaker
  pub edges_not_below : (class : ℕ) → T (is_class class) → NotAbove (class_pressures class 1) (class_pressures class 2)
  -- nor in a higher class, from N1 to N6 and from C1 to C4
  pub never_falls : (class other zone : ℕ) → T (rises_to class other) → NotAbove (class_pressures class zone) (class_pressures other zone)
