-- What validating says of an image: the number of a refusal, or the layout. And what the code answers, in these words.
use Rattle.std.specs.Prelude.{ℕ, Result, Ok, Err}
use Rattle.image.specs.declared.ImageError.{ImageError}
use Rattle.image.specs.declared.Layout.{Layout}

pub data Validated : Type 0 where
  Refused : ℕ → Validated
  Valid : Layout → Validated

-- document 01's number of an error,
abbrev pub error_number : ImageError → ℕ
error_number ImageError.Limits = 1
error_number ImageError.Mark = 2
error_number ImageError.Version = 3
error_number ImageError.Layout = 4

-- of a check, 0 where no rule is broken,
abbrev pub number_of : {T : Type 0} → Result T ImageError → ℕ
number_of (Ok value) = 0
number_of (Err error) = error_number error

-- and the answer
abbrev pub answer_of : Result Layout ImageError → Validated
answer_of (Ok layout) = Valid layout
answer_of (Err error) = Refused (error_number error)

-- the same by the numbers of whatever errors
abbrev pub numbered_answer : {E : Type 0} → (E → ℕ) → Result Layout E → Validated
numbered_answer number (Ok layout) = Valid layout
numbered_answer number (Err error) = Refused (number error)
