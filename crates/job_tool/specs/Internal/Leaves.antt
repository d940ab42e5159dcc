-- What reading a file leaves of what was there. Which bytes a read of the system gives, no contract can say.
use Rattle.std.specs.Prelude.{◌≡◌, ◌≤◌, List, ℕ, Result, Ok, Err, length}
use Rattle.job_tool.specs.declared.argument.Unread.{Unread}
use Rattle.job_tool.specs.declared.argument.Unread.TheVariants.{NotOpened, NotRead}

-- A list of bytes. A file that was read has no more than there is room for; where it was not opened or not read, the list is as it was.
abbrev pub Leaves : Result (Unit {0}) Unread → List ℕ → List ℕ → Type 0
Leaves (Ok done) before after = length after ≤ 65536
Leaves (Err NotOpened) before after = after ≡ before
Leaves (Err NotRead) before after = after ≡ before

-- The room that a file is read into, where the answer is how many bytes of it are the file's. Where it was not opened, the room is as it
-- was; where a read failed, any bytes may be there.
abbrev pub LeavesRoom : Result ℕ Unread → List ℕ → List ℕ → Type 0
LeavesRoom (Ok count) before after = count ≤ 65536
LeavesRoom (Err NotOpened) before after = after ≡ before
LeavesRoom (Err NotRead) before after = Unit
