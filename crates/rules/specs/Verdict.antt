-- The verdict of a check: accepted, with the need and the number of starts, or refused, with a number and an offset.
use Rattle.std.specs.Prelude.{ℕ, Result, Ok, Err}
use Rattle.rules.specs.declared.Acceptance.{Acceptance}
use Rattle.rules.specs.declared.Refusal.{Refusal}

abbrev pub Verdict : Type 0
Verdict = Result Acceptance Refusal

abbrev pub Accepted : ℕ → ℕ → Verdict
Accepted need count = Ok (record { need = need; count = count })

abbrev pub Refused : ℕ → ℕ → Verdict
Refused number offset = Err (record { number = number; offset = offset })
