-- `execution::Registers::perform_push` meets its contract.
use mathlib.Core.Path.{refl}
use Rattle.stm8.specs.declared.Flow.TheVariants.{Next}
use Rattle.execution.specs.Computing.{computed}
use Rattle.storage.specs.Storing.{call_trap}
use Rattle.execution.specs.Performing.{pc_after}
use Rattle.execution.specs.Internal.{performed_by, performed_as}
use Rattle.execution.proofs.Registers.perform_push.Goals as goal

pub returns : goal.returns
unfolding performed_as performed_by computed call_trap pc_after
returns c = rw (c.storing_byte-c.ensures, c.operand_byte.ensures) at
    (c.pushes.ensures c.args.image.now c.args.next Next refl refl)
