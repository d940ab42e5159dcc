-- What the functions of this crate ask of numbers.
use Rattle.std.specs.Prelude.{ℕ, ◌≤◌, ◌<◌, ◌≡◌, List, length, get_or}

-- Numbers of at most four digits, as ids are.
abbrev pub FourDigits : List ℕ → Type 0
FourDigits ns = (k : ℕ) → k < length ns → get_or ns k 0 ≤ 9999

-- The ids of panes and an answer for each, at most 256; all have at most four digits.
pub record PaneAnswers (ids answers : List ℕ) : Type 0 where
  pub one_each : length answers ≡ length ids
  pub few : length answers ≤ 256
  pub answers_short : FourDigits answers
  pub ids_short : FourDigits ids
