-- The loop's invariant of `trailer::five_digits`: the bytes passed are digits, and make the number.
use Rattle.std.proofs.Common.{◌≡◌, ℕ, ◌<◌, ◌^◌, get_or, true}
use Rattle.job_line.specs.Number.{is_digit}
use Rattle.job_file.proofs.Digits.{made}
use Rattle.job_file.proofs.trailer.five_digits.Given as goal

abbrev pub invariant-loop-byte : goal.invariant-loop-byte
invariant-loop-byte l =
    ((k : ℕ) → k < l.byte-index → is_digit (get_or l.fn.bytes k 0) ≡ true)
    × (l.number ≡ made l.byte-index l.fn.bytes)
    × (l.number < 10 ^ l.byte-index)
