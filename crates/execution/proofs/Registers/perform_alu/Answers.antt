-- `execution::Registers::perform_alu` meets its contract.
use mathlib.Core.Path.{refl}
use Rattle.stm8.specs.declared.Flow.TheVariants.{Next}
use Rattle.execution.specs.Computing.{computed}
use Rattle.execution.specs.Performing.{pc_after}
use Rattle.execution.specs.Internal.{performed_by, performed_as}
use Rattle.execution.proofs.Registers.perform_alu.Goals as goal

pub returns : goal.returns
unfolding performed_as performed_by computed pc_after
returns c inside = rw (c.alu.ensures, c.operand_byte.ensures) at
    (c.goes.ensures c.args.image.now c.args.memory.now c.args.limits c.args.next Next inside refl refl)
