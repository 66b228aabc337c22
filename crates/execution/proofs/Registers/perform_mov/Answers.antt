-- `execution::Registers::perform_mov` meets its contract.
use native.Mathlib.Omega.{arith}
use Rattle.stm8.specs.declared.Flow.TheVariants.{Next}
use Rattle.execution.specs.Computing.{computed}
use Rattle.execution.specs.Internal.{performed_by, performed_as}
use Rattle.execution.proofs.Shapes.{in_range}
use Rattle.execution.proofs.Registers.perform_mov.Goals as goal

pub returns : goal.returns
unfolding performed_as performed_by computed
returns c inside = rw (c.storing_byte-c.ensures, c.operand_byte.ensures) at
    (c.stores.ensures c.args.image.now c.args.memory.now _ c.args.limits 0 _ (in_range c.args.limits c.args.self.sp inside _ Next) (omega arith)
    c.put_operand-stored.ensures)
