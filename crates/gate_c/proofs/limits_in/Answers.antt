-- `gate_c::limits_in` meets its contract.
use mathlib.Core.Path.{refl}
use Rattle.gate_c.proofs.limits_in.Goals as goal

pub returns : goal.returns
returns c = refl
