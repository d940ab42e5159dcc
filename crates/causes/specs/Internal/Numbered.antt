-- What holds of the number of every cause.
use Rattle.std.specs.Prelude.{◌≤◌}
use Rattle.causes.specs.declared.Cause.{Cause}
use Rattle.causes.specs.Cause.{number_of}

-- No refusal has number 0, which says that a call is not refused; and a number has at most two digits.
pub record Numbered (cause : Cause) : Type 0 where
  pub not_zero : 1 ≤ number_of cause
  pub two_digits : number_of cause ≤ 99
