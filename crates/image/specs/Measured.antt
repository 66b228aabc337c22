-- What measuring answers, in the words of validating.
use Rattle.std.specs.Prelude.{Result, Ok, Err}
use Rattle.image.specs.Validated.{Validated, Refused, Valid, error_number}
use Rattle.image.specs.declared.ImageError.{ImageError}
use Rattle.image.specs.declared.measured.Measured.{Measured}

abbrev pub measured_answer : Result Measured ImageError → Validated
measured_answer (Ok measured) = Valid measured.layout
measured_answer (Err error) = Refused (error_number error)
