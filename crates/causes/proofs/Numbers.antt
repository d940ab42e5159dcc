-- What holds of the number of every cause, by cases.
--     numbered       it is not 0, and has at most two digits
--     no_number_7    it is not 7
use native.Mathlib.Omega.{arith}
use Rattle.causes.specs.Internal.Numbered.{Numbered}
use Rattle.causes.specs.Laws.{NoNumber7}
use Rattle.causes.specs.declared.Cause.{Cause}
use Rattle.causes.specs.declared.Cause.TheVariants.{
  FileLength,
  NoTrailer,
  PartOffsets,
  LineForm,
  NumberValue,
  RepeatedId,
  TooManyLines,
  ListTooShort,
  NoPane,
  NoGlass,
}

pub numbered : (cause : Cause) → Numbered cause
numbered FileLength = record { not_zero = omega arith; two_digits = omega arith }
numbered NoTrailer = record { not_zero = omega arith; two_digits = omega arith }
numbered PartOffsets = record { not_zero = omega arith; two_digits = omega arith }
numbered LineForm = record { not_zero = omega arith; two_digits = omega arith }
numbered NumberValue = record { not_zero = omega arith; two_digits = omega arith }
numbered RepeatedId = record { not_zero = omega arith; two_digits = omega arith }
numbered TooManyLines = record { not_zero = omega arith; two_digits = omega arith }
numbered ListTooShort = record { not_zero = omega arith; two_digits = omega arith }
numbered NoPane = record { not_zero = omega arith; two_digits = omega arith }
numbered NoGlass = record { not_zero = omega arith; two_digits = omega arith }

pub no_number_7 : NoNumber7
no_number_7 FileLength e = omega (arith, e)
no_number_7 NoTrailer e = omega (arith, e)
no_number_7 PartOffsets e = omega (arith, e)
no_number_7 LineForm e = omega (arith, e)
no_number_7 NumberValue e = omega (arith, e)
no_number_7 RepeatedId e = omega (arith, e)
no_number_7 TooManyLines e = omega (arith, e)
no_number_7 ListTooShort e = omega (arith, e)
no_number_7 NoPane e = omega (arith, e)
no_number_7 NoGlass e = omega (arith, e)
