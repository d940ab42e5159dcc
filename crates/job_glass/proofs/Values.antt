-- A glass whose numbers pass the test has them within their bounds.
use Prim.Native.Nat.{ℕ}
use mathlib.Core.Bool.{◌||◌, or_assoc}
use native.Mathlib.Omega.{arith}
use lib.Dec.{T, eqb, eqb→eq}
use Rattle.basics.proofs.Tests.{and_iff, leb_iff, one_of}
use Rattle.job_glass.specs.GlassLine.{allowed_glass}
use Rattle.job_glass.specs.Internal.Values.{GlassValues}
use Rattle.job_glass.specs.declared.Glass.{Glass}

pub allowed_glass_lem : (g : Glass) → T (allowed_glass g) → GlassValues g
allowed_glass_lem g h =
    let k = simp (and_iff, or_assoc, leb_iff) at h in
    let t : ℕ = g.thick in
    record {
      id_low = omega arith;
      id_high = omega arith;
      kind_low = omega arith;
      kind_high = omega arith;
      thick_is =
          one_of t 6 (eqb t 8 || (eqb t 10 || eqb t 12))
          (one_of t 8 (eqb t 10 || eqb t 12) (one_of t 10 (eqb t 12) (eqb→eq t 12)))
          k.0.0.0.0.0.1;
      w_low = omega arith;
      w_high = omega arith;
      h_low = omega arith;
      h_high = omega arith;
      two_low = omega arith;
      two_high = omega arith;
      four_low = omega arith;
      four_high = omega arith;
      stock_high = omega arith;
    }
