-- What each cause says to people, in plain words, and of some what to do about it.
use Rattle.std.specs.Prelude.{ℕ, List, codes}
use Rattle.causes.specs.declared.Cause.{Cause}
use Rattle.causes.specs.declared.Cause.TheVariants.{FileLength, NoTrailer, PartOffsets, LineForm, NumberValue, RepeatedId, TooManyLines, ListTooShort, NoPane, NoGlass}

abbrev pub words_of : Cause → List ℕ
words_of FileLength = codes "the file is under 14 or over 65,535 bytes; is it the whole job file, and are its notes short enough?"
words_of NoTrailer = codes "the file does not end in T, a space, five digits, a space, five digits and a newline"
words_of PartOffsets = codes "the last line's numbers, where the glass part and the pane part begin, are out of order or too large"
words_of LineForm = codes "the line is not G and 8 numbers, or P or Q and 9, one space and one to five digits each, no zeros in front, and a newline"
words_of NumberValue = codes "a number is not among its allowed values; compare the line with the description of the job file"
words_of RepeatedId = codes "the id is already on an earlier line of this part; give the line an id of its own"
words_of TooManyLines = codes "the part has more than 64 glass lines or 256 pane lines; divide the job among several files, and each stock with it"
words_of ListTooShort = codes "a list that was lent has fewer entries than the file has panes; lend one with an entry for each pane"
words_of NoPane = codes "no pane of the file has that id"
words_of NoGlass = codes "no glass of the file has that id"
