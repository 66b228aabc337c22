-- `execution::Registers::perform_popw` meets its contract.
use mathlib.Core.Path.{refl}
use Rattle.stm8.specs.declared.Flow.TheVariants.{Next}
use Rattle.execution.specs.Computing.{computed}
use Rattle.execution.specs.Performing.{pc_after}
use Rattle.execution.specs.Internal.{performed_by, performed_as}
use Rattle.execution.proofs.Registers.perform_popw.Goals as goal

pub returns : goal.returns
unfolding performed_as performed_by computed pc_after
returns c = rw (c.with_word.ensures, c.read_word-w.ensures) at
    (c.moves.ensures c.args.image.now c.args.memory.now c.args.next Next refl refl)
