-- The rule of Tables 6.2 to 6.5, for every kind and live load.
use Prim.Native.Nat.{ℕ}
use native.Mathlib.Omega.{arith}
use Rattle.span_table.specs.SpanRule.{SpanRule}
use Rattle.span_table.proofs.Entries.{ordered}
use Rattle.span_table.proofs.Rows.{nominal_is}

pub span_rule : (kind load : ℕ) → SpanRule kind load
span_rule kind load = record {
  with_thickness = λ thin thick column n m thicker.
      ordered kind load thin column thick column (omega (arith, nominal_is thin n, nominal_is thick m)) (omega arith);
  along_columns = λ thick column later earlier. ordered kind load thick later thick column (omega arith) earlier;
}
