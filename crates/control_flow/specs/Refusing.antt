-- A check that gives a value or a refusal, as the number and the offset that the definitions speak of: number 0 where nothing is refused, and then the
-- offset says nothing.
use Rattle.std.specs.Prelude.{ℕ, Result, Ok, Err}
use Rattle.control_flow.specs.declared.Refusal.{Refusal}

abbrev pub number_of : {A : Type 0} → Result A Refusal → ℕ
number_of (Ok a) = 0
number_of (Err r) = r.number

abbrev pub at_of : {A : Type 0} → Result A Refusal → ℕ
at_of (Ok a) = 0
at_of (Err r) = r.at
