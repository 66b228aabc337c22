-- `execution::Registers::perform_modify` meets its contract.
use mathlib.Core.Path.{refl}
use native.Mathlib.Omega.{arith}
use Rattle.stm8.specs.declared.Flow.TheVariants.{Next}
use Rattle.execution.specs.Computing.{computed}
use Rattle.execution.specs.Performing.{pc_after}
use Rattle.execution.specs.Internal.{performed_by, performed_as}
use Rattle.execution.proofs.Shapes.{in_range}
use Rattle.execution.proofs.Registers.perform_modify.Goals as goal

pub returns-then-writes_back : goal.returns-then-writes_back
unfolding performed_as performed_by computed pc_after
returns-then-writes_back c inside = rw (← c.writes_back.ensures, c.if-writes_back.true)
    (rw (
      c.modify-c.ensures,
      c.operand_byte.ensures,
    ) at
    (c.stores.ensures c.args.image.now c.args.memory.now _ c.args.limits 0 _ (in_range c.args.limits c.args.self.sp inside _ Next) (omega arith)
    c.put_operand-stored.ensures))

pub returns : goal.returns
unfolding performed_as performed_by computed pc_after
returns c inside = rw (← c.writes_back.ensures, c.if-writes_back.false)
    (rw (
      c.modify-c.ensures,
      c.operand_byte.ensures,
    ) at
    (c.goes.ensures c.args.image.now c.args.memory.now c.args.limits c.args.next Next inside refl refl))
