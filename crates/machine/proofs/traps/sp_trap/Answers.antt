-- `machine::traps::sp_trap` meets its contract.
use borrow.Author.Tests.{lt-ltb, le-ltb}
use Rattle.numbers.specs.Checks.{first, under}
use Rattle.storage.specs.Storing.{sp_trap}
use Rattle.machine.proofs.traps.sp_trap.Goals as goal
use Rattle.machine.proofs.traps.sp_trap.Goals.{then-sp-stack-via-then-sp-stack, then-sp-stack-via-else-sp-stack+then-sp-stack-2}

pub returns : goal.returns
unfolding sp_trap first under
returns c = rw (le-ltb _ _ c.if-sp-stack.false, le-ltb _ _ c.if-sp-stack-2.false)

pub returns-then-sp-stack : goal.returns-then-sp-stack
unfolding sp_trap first under
returns-then-sp-stack c = elim c.then-sp-stack.branch [
  | then-sp-stack-via-then-sp-stack w ↦ rw (lt-ltb _ _ w.if-sp-stack.true)
  | then-sp-stack-via-else-sp-stack+then-sp-stack-2 w ↦ rw (le-ltb _ _ w.if-sp-stack.false, lt-ltb _ _ w.if-sp-stack-2.true)
]
