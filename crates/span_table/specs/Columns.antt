-- The columns of Tables 6.2 to 6.5 in their order: the number of each, counted from 0.
use Rattle.std.specs.Prelude.{ℕ}
use Rattle.span_table.specs.declared.Column.{Column}
use Rattle.span_table.specs.declared.Column.TheVariants.{Ar1, Ar2, Ar3, TwoEdge}

abbrev pub column_number : Column → ℕ
column_number Ar1 = 0
column_number Ar2 = 1
column_number Ar3 = 2
column_number TwoEdge = 3
