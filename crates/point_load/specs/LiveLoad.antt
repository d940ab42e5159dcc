-- Document 01, "The four clauses", clause 3: the live load, in tenths of a kN.
use Rattle.std.specs.Prelude.{ℕ, ltb, eqb, if◌then◌else◌}

-- An awning bears the largest, whatever its angle.
abbrev pub live_load : (angle awning : ℕ) → ℕ
live_load angle awning =
    if eqb awning 1 then 18
    else if ltb angle 30 then 11
    else 5
