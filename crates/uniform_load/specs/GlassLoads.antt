-- Documents 01 and 02, "The four clauses", clause 4: the dead loads of a glass. Those of Table 6.1 are of 6 mm glass;
-- another thickness weighs in proportion.
use Rattle.std.specs.Prelude.{ℕ, ◌+◌, ◌-◌, ◌*◌, ◌/◌, eqb, if◌then◌else◌}
use Rattle.job_glass.specs.declared.Glass.{Glass}

-- Division, rounded up; `/` rounds down.
abbrev pub divided_up : ℕ → ℕ → ℕ
divided_up n d = (n + (d - 1)) / d

-- The maximum of annealed glass, kind 1, from that of its row, rounded up. The maxima of Table 6.1 are for its load-duration factor c3,
-- 0.31 (AS 1288, notes 3 and 4 to the table).
abbrev pub annealed_maximum : (row_maximum thick : ℕ) → ℕ
annealed_maximum row_maximum thick = divided_up (row_maximum * thick) 6

-- The maximum of tempered glass, rounded up once: heat-strengthened and toughened, kinds 2, 3 and 4. Its factor is 0.5, and a maximum
-- goes by 1 / c3: so 31 for each 50 of the row's, and 300 is 50 times 6.
abbrev pub tempered_maximum : (row_maximum thick : ℕ) → ℕ
tempered_maximum row_maximum thick = divided_up (row_maximum * 31 * thick) 300

-- The maximum of a glass, by its kind. The kinds of an accepted file are 1 to 4, so what is not 1 is 2, 3 or 4.
abbrev pub max_dead_load : (row_maximum : ℕ) → Glass → ℕ
max_dead_load row_maximum g =
    if eqb g.kind 1 then annealed_maximum row_maximum g.thick else tempered_maximum row_maximum g.thick

-- The minimum, from that of its row, rounded down. c3 is not in it (note 4), so it is the same for every kind.
abbrev pub min_dead_load : (row_minimum : ℕ) → Glass → ℕ
min_dead_load row_minimum g = row_minimum * g.thick / 6
