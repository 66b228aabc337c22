-- What the check of a routine gives, as the need and the count that the definitions speak of: where it refuses they say nothing.
use Rattle.std.specs.Prelude.{ℕ, Result, Ok, Err}
use Rattle.control_flow.specs.declared.Refusal.{Refusal}
use Rattle.flow_check.specs.declared.Measured.{Measured}

abbrev pub need_of : Result Measured Refusal → ℕ
need_of (Ok m) = m.need
need_of (Err r) = 0

abbrev pub count_of : Result Measured Refusal → ℕ
count_of (Ok m) = m.count
count_of (Err r) = 0
