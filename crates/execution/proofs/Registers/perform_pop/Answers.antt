-- `execution::Registers::perform_pop` meets its contract.
use Rattle.execution.specs.Computing.{computed}
use Rattle.execution.specs.Internal.{performed_by, performed_as}
use Rattle.execution.proofs.Registers.perform_pop.Goals as goal

pub returns : goal.returns
unfolding performed_as performed_by computed
returns c = rw (c.pop-c.ensures, c.read_byte.ensures) at
    (c.pops.ensures c.args.image.now)
