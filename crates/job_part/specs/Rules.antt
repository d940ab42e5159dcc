-- The rules that the entries of a part keep that is read whole: documents 01 and 02, "The job file", and "What each cause gives", rows 5,
-- 6 and 8.
use Rattle.std.specs.Prelude.{◌≤◌, Bool, List, [], ◌∷◌, map, T, length}
use Rattle.ids.specs.Ids.{Distinct}
use Rattle.job_part.specs.Part.{Form}

-- A test holds of every entry of a list. `T b` says that the test `b` holds.
unfoldable pub Every : {A : Type 0} → (A → Bool) → List A → Type 0
Every test [] = Unit
Every test (x ∷ xs) = T (test x) × Every test xs

-- What a part's lines keep: no more of them than allowed, allowed values and distinct ids.
pub record PartRules {A : Type 0} (form : Form A) (xs : List A) : Type 0 where
  pub at_most : length xs ≤ form.most
  pub allowed : Every form.allowed xs
  pub distinct : Distinct (map form.id xs)
