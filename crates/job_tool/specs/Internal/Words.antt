-- The words for a file that was not read.
use Rattle.std.specs.Prelude.{ℕ, List, codes}
use Rattle.job_tool.specs.declared.argument.Unread.{Unread}
use Rattle.job_tool.specs.declared.argument.Unread.TheVariants.{NotOpened, NotRead}

abbrev pub unread_words : Unread → List ℕ
unread_words NotOpened = codes "not opened"
unread_words NotRead = codes "not read"
