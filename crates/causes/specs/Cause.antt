-- Documents 01 and 02, "What each cause gives": the table's column "Number". Definitions name a cause; its number stands here alone.
-- There is no number 7.
use Rattle.std.specs.Prelude.{ℕ}
use Rattle.causes.specs.declared.Cause.{Cause}
use Rattle.causes.specs.declared.Cause.TheVariants.{FileLength, NoTrailer, PartOffsets, LineForm, NumberValue, RepeatedId, TooManyLines, ListTooShort, NoPane, NoGlass}

abbrev pub number_of : Cause → ℕ
number_of FileLength = 1
number_of NoTrailer = 2
number_of PartOffsets = 3
number_of LineForm = 4
number_of NumberValue = 5
number_of RepeatedId = 6
number_of TooManyLines = 8
number_of ListTooShort = 9
number_of NoPane = 10
number_of NoGlass = 11
