-- The texts of the examples: what is known of each call settles the text, which is then computed.
--     texts    (c), (h), (i), (j)
use Prim.Native.Nat.{ℕ}
use mathlib.Core.Path.{◌≡◌, ◌∙◌}
use mathlib.Core.List.{List, [], ◌∷◌, ◌++◌}
use Rattle.causes.specs.Cause.{number_of}
use Rattle.causes.specs.declared.Cause.{Cause}
use Rattle.causes.specs.declared.Cause.TheVariants.{FileLength}
use Rattle.job_line.specs.Bytes.{bytes_of}
use Rattle.job_line.specs.WrittenNumber.{written_digits, digit_count, written_number, written_numbers}
use Rattle.job_file.specs.File.{Outcome, accepted, refused, outcome_of}
use Rattle.bench_examples.specs.Files.{pane_c, job_h}
use Rattle.bench_examples.proofs.Files.{glasses_j, panes_j, ribbon, nothing_wanted, thirteen_bytes, job_read}
use Rattle.bench_examples.proofs.JobC.{glasses_c}
use Rattle.report.specs.Text.{pane_lines, placing_text, refusal_text}
use Rattle.report.specs.Reported.{TextOf, TextOfPlacing}
use Rattle.bench_examples.specs.Texts.{Texts}
use Rattle.bench_examples.proofs.Examples.{glazing_c, glazing_h, glazing_j}

-- A text of a file, by what the file says.
refused_text :
    (o : Outcome) (cause : Cause) (text : List ℕ) → o ≡ refused cause 0 → TextOf o text → text ≡ refusal_text (number_of cause) 0
refused_text o cause text is t = rw is at t

placed_text : (o : Outcome) (text : List ℕ) → o ≡ accepted [] [] → TextOf o text → TextOfPlacing [] [] text
placed_text o text is t = rw is at t

text_c : (text : List ℕ) → TextOfPlacing glasses_c (pane_c 3001 ∷ []) text → text ≡ bytes_of "1 10\n" ++ bytes_of "1 1\n"
unfolding placing_text pane_lines written_number written_numbers written_digits digit_count
text_c text t = let is = glazing_c t.answers t.group t.placed t.glazing in t.is_text ∙ rw (is.0, is.1)

text_h : (text : List ℕ) → TextOfPlacing [] [] text → text ≡ bytes_of "0 0\n"
unfolding placing_text pane_lines written_number written_numbers written_digits digit_count
text_h text t = t.is_text ∙ rw (glazing_h t.answers t.group t.placed t.glazing).0

pub text_j : (text : List ℕ) → TextOfPlacing glasses_j panes_j text → text ≡ bytes_of "1 7\n" ++ bytes_of "2 9\n" ++ bytes_of "2 2\n"
unfolding placing_text pane_lines written_number written_numbers written_digits digit_count
text_j text t = let is = glazing_j t.answers t.group t.placed t.glazing in t.is_text ∙ rw (is.0, is.1)

pub texts : Texts
unfolding refusal_text written_number written_numbers written_digits digit_count
texts = record {
  c = λ text t. text_c text (rw ribbon at t);
  h = λ text t. text_h text (placed_text (outcome_of job_h) text nothing_wanted t);
  i = λ file text l t. refused_text (outcome_of file) FileLength text (thirteen_bytes file l) t;
  j = λ text t. text_j text (rw job_read at t);
}
