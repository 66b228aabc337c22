-- Acceptance leaves one list of marks: they go by the depths at starts, and past the code by what was there.
use Prim.Native.Nat.{ℕ, ◌<◌}
use mathlib.Core.Path.{◌≡◌, sym, ◌∙◌}
use mathlib.Core.Logic.{⊎_elim, by_cases}
use mathlib.Core.List.{List}
use native.Mathlib.Decide.{dec_lt}
use native.Mathlib.Omega.{arith}
use lib.ListN.{get_or}
use lib.Seq.{ext_get_or}
use Rattle.image.specs.Image.{count_of, size_of}
use Rattle.code.specs.Code.{Start}
use Rattle.rules.specs.Acceptance.{AcceptedMarks, PastCode}

module _ {image : List ℕ} {depth depth' : ℕ → ℕ} (deep : (r o : ℕ) → r < count_of image → Start image r o → depth o ≡ depth' o) where
  module _ {after after' : List ℕ} (marks : AcceptedMarks image depth after) (marks' : AcceptedMarks image depth' after') where
    at_start : (r o : ℕ) → r < count_of image → Start image r o → get_or after o 0 ≡ get_or after' o 0
    at_start r o inside s = omega (arith, marks.starts r o inside s, marks'.starts r o inside s, deep r o inside s)

    in_code : (o : ℕ) → o < size_of image → get_or after o 0 ≡ get_or after' o 0
    in_code o below =
        ⊎_elim
        (λ z. ⊎_elim (λ z'. z ∙ sym z') (λ s. at_start s.0 o s.1 s.2) (marks'.others o below))
        (λ s. at_start s.0 o s.1 s.2) (marks.others o below)

    pub one_marks : {before : List ℕ} → PastCode image before after → PastCode image before after' → after ≡ after'
    one_marks past past' =
        ext_get_or 0 after after' (past.size ∙ sym past'.size)
        (λ o below. by_cases (dec_lt o (size_of image)) (in_code o) (λ l. past.cells o (omega arith) ∙ sym (past'.cells o (omega arith))))
