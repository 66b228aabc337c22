-- `gate::begin` meets its contract.
use Rattle.gate.proofs.Starting.{cleared_bytes}
use Rattle.gate.proofs.begin.Goals as goal

pub returns : goal.returns
returns c = record {
  value = rw c.main_address.ensures;
  memory_after = cleared_bytes c.args.limits c.args.memory.now c.requires.le_high.0;
}
