-- `execution::Registers::perform_bit_jump` meets its contract.
use mathlib.Core.Path.{refl}
use Rattle.stm8.specs.declared.Flow.TheVariants.{Branch}
use Rattle.execution.specs.Computing.{computed}
use Rattle.execution.specs.Performing.{pc_after}
use Rattle.execution.specs.Internal.{performed_by, performed_as}
use Rattle.execution.proofs.Registers.perform_bit_jump.Goals as goal

pub returns : goal.returns
unfolding performed_as performed_by computed pc_after
returns c inside = rw (c.bit_jump.ensures, c.read_byte.ensures) at
    (c.jumps.ensures c.args.image.now c.args.memory.now c.args.limits (Branch c.args.offset) inside refl refl)
