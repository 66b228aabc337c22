-- `execution::Registers::perform_ret` meets its contract.
use mathlib.Core.Path.{refl}
use Rattle.stm8.specs.declared.Flow.TheVariants.{Return}
use Rattle.execution.specs.Computing.{computed}
use Rattle.execution.specs.Performing.{pc_after}
use Rattle.execution.specs.Internal.{performed_by, performed_as}
use Rattle.execution.proofs.Registers.perform_ret.Goals as goal

pub returns : goal.returns
unfolding performed_as performed_by computed pc_after
returns c = rw c.unchanged.ensures at
    (c.moves.ensures c.args.image.now c.args.memory.now c.args.next Return refl c.read_word-address.ensures)
