-- A list after a call has written its front.
use Rattle.std.specs.Prelude.{List, ◌++◌, length, drop}

-- A lent list whose first entries were written and whose later ones were kept.
abbrev pub written : {A : Type 0} → List A → List A → List A
written first before = first ++ drop (length first) before
