-- What a check gives: its verdict, and the marks as it leaves them. That there is just one outcome for each image, limits and marks is a theorem.
use Rattle.std.specs.Prelude.{ℕ, Ok, Err, ◌<◌, ◌≤◌, ◌≡◌, ◌⊎◌, List, ◌++◌, length, drop, replicate}
use Rattle.image.specs.declared.Limits.{Limits}
use Rattle.image.specs.declared.Layout.{Layout}
use Rattle.image.specs.Validated as Validated
use Rattle.image.specs.Image.{size_of}
use Rattle.image.specs.Validation.{validated}
use Rattle.rules.specs.Refusal.{Refusal}
use Rattle.rules.specs.Acceptance.{Acceptable, AcceptedMarks, PastCode}
use Rattle.rules.specs.Verdict.{Verdict}
use Rattle.rules.specs.Verdict.{Accepted, Refused}

-- 1 to 4, then 5; then the refusal of the code, 6 to 16, or acceptance. After 1 to 5 no mark changes; after 6 to 16 all code marks are 0.
pub data Outcome (image : List ℕ) (limits : Limits) (before : List ℕ) : Verdict → List ℕ → Type 0 where
  invalid : {number : ℕ} → validated image limits ≡ Validated.Refused number → Outcome image limits before (Refused number 0) before
  few : {layout : Layout} → validated image limits ≡ Validated.Valid layout → length before < size_of image →
      Outcome image limits before (Refused 5 0) before
  refused : {layout : Layout} {number offset : ℕ} → validated image limits ≡ Validated.Valid layout → size_of image ≤ length before →
      Refusal image limits number offset →
      Outcome image limits before (Refused number offset) (replicate (size_of image) 0 ++ drop (size_of image) before)
  accepted : {need count : ℕ} {after : List ℕ} (h : Acceptable image limits before need count) → AcceptedMarks image h.depth after →
      PastCode image before after → Outcome image limits before (Accepted need count) after

-- document 01's number and values of each verdict: accepted is 0; refused, need and count are 0
pub record VerdictValues : Type 0 where
  pub number : ℕ
  pub offset : ℕ
  pub need : ℕ
  pub count : ℕ

abbrev pub values_of : Verdict → VerdictValues
values_of (Ok a) = record { number = 0; offset = 0; need = a.need; count = a.count }
values_of (Err r) = record { number = r.number; offset = r.offset; need = 0; count = 0 }

-- What they tell of a verdict: it accepts exactly where the number is 0, and refuses with 1 to the most there is, 16 of a check and 17 of a start.
-- The offset is 0 for all but 6 to 15.
pub record VerdictNumbered (last : ℕ) (v : Verdict) : Type 0 where
  pub accepted : (values_of v).number ≡ 0 → v ≡ Accepted (values_of v).need (values_of v).count
  pub refused : ((values_of v).number ≡ 0 → ⊥) → v ≡ Refused (values_of v).number (values_of v).offset
  pub most : (values_of v).number ≤ last
  pub nowhere : ((values_of v).number ≤ 5) ⊎ (16 ≤ (values_of v).number) → (values_of v).offset ≡ 0
  pub nothing : ((values_of v).number ≡ 0 → ⊥) → ((values_of v).need ≡ 0) × ((values_of v).count ≡ 0)
