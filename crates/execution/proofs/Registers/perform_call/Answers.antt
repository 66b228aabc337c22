-- `execution::Registers::perform_call` meets its contract.
use mathlib.Core.Path.{refl}
use Rattle.stm8.specs.declared.Flow.TheVariants.{Call}
use Rattle.execution.specs.Computing.{computed}
use Rattle.storage.specs.Storing.{call_trap}
use Rattle.execution.specs.Performing.{pc_after}
use Rattle.execution.specs.Internal.{performed_by, performed_as}
use Rattle.execution.proofs.Registers.perform_call.Goals as goal

pub returns : goal.returns
unfolding performed_as performed_by computed call_trap pc_after
returns c image = rw c.storing-c.ensures at
    (c.pushes.ensures image c.args.next (Call c.args.a)
    c.call_trap.ensures refl)
