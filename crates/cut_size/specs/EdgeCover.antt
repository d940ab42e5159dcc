-- Documents 01 and 02, "The four clauses", clause 2: how far the rebate must cover a sheet along each edge, at least.
use Rattle.std.specs.Prelude.{ℕ, eqb, if◌then◌else◌}

-- NZS 4223.1:2008, Table 5, column "Edge cover", in mm: the rows of nominal thickness 6, 8, 10 and 12. Any other
-- thickness, which no accepted file has, reads the last row.
abbrev pub edge_cover : (thick : ℕ) → ℕ
edge_cover thick =
    if eqb thick 6 then 6
    else if eqb thick 8 then 8
    else if eqb thick 10 then 8
    else 9
