-- `execution::Registers::perform_callr` meets its contract.
use Rattle.stm8.specs.declared.Flow.TheVariants.{CallRelative}
use Rattle.execution.specs.Computing.{computed}
use Rattle.storage.specs.Storing.{call_trap}
use Rattle.execution.specs.Performing.{pc_after}
use Rattle.execution.specs.Internal.{performed_by, performed_as}
use Rattle.execution.proofs.Registers.perform_callr.Goals as goal

pub returns : goal.returns
unfolding performed_as performed_by computed call_trap pc_after
returns c image = rw c.storing-c.ensures at
    (c.pushes.ensures image c.args.next (CallRelative c.args.offset)
    c.call_trap.ensures c.target.ensures)
