-- `gate_c::record_in` meets its contract.
use Rattle.gate_c.proofs.record_in.Goals as goal

pub returns : goal.returns
returns c = rw c.registers_in.ensures
