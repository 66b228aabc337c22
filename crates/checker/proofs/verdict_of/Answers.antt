-- `checker::verdict_of` meets its contract.
use Rattle.std.proofs.Common.{◌-◌, arith}
use Rattle.checker.specs.Internal.{refusing, narrow, accepting}
use Rattle.checker.proofs.verdict_of.Goals as goal

pub returns-in-Err : goal.returns-in-Err
returns-in-Err c = rw c.in-Err.is refusing

pub overflow_add-need : goal.overflow_add-need
overflow_add-need c = omega (arith, (rw c.in-Ok.is at c.requires.2).1 (c.args.layout.count - 1))

pub returns-then-stack-need : goal.returns-then-stack-need
returns-then-stack-need c = rw (c.in-Ok.is, c.of_rule.ensures) (narrow c.if-stack-need.true)

pub returns-else-stack-need : goal.returns-else-stack-need
returns-else-stack-need c = rw c.in-Ok.is (accepting c.if-stack-need.false)
