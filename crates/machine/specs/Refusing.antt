-- Why no step is tried, in numbers and in the words of validating. No public contract cites it.
use Rattle.std.specs.Prelude.{ℕ, Result, Ok, Err}
use Rattle.image.specs.Validated.{Validated, Refused, Valid, error_number}
use Rattle.image.specs.declared.Layout.{Layout}
use Rattle.machine.specs.declared.stepping.StepRefusal.{StepRefusal}
use Rattle.machine.specs.declared.stepping.StepRefusal.TheVariants.{Memory, Image}

abbrev pub refusal_number : StepRefusal → ℕ
refusal_number Memory = 17
refusal_number (Image error) = error_number error

abbrev pub answer_of : Result Layout StepRefusal → Validated
answer_of (Ok layout) = Valid layout
answer_of (Err refusal) = Refused (refusal_number refusal)
