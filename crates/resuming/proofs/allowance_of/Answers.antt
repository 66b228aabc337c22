-- `resuming::allowance_of` meets its contract.
use native.Mathlib.Omega.{arith}
use Rattle.resuming.specs.Resuming.{allowance}
use Rattle.resuming.proofs.allowance_of.Goals as goal

pub returns-then-left-budget : goal.returns-then-left-budget
unfolding allowance
returns-then-left-budget c = omega (arith, c.if-left-budget.true)

pub returns-else-left-budget : goal.returns-else-left-budget
unfolding allowance
returns-else-left-budget c = omega (arith, c.if-left-budget.false)
