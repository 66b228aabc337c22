-- `storage::traps::move_trap` meets its contract.
use borrow.Author.Tests.{lt-ltb, le-ltb}
use Rattle.numbers.specs.Checks.{first, under}
use Rattle.storage.specs.Storing.{move_trap}
use Rattle.storage.proofs.traps.move_trap.Goals as goal
use Rattle.storage.proofs.traps.move_trap.Goals.{then-popped-stack-via-then-popped-stack, then-popped-stack-via-else-popped-stack+then-popped-stack-2}

pub returns : goal.returns
unfolding move_trap first under
returns c place flow = rw (le-ltb _ _ c.if-popped-stack.false, le-ltb _ _ c.if-popped-stack-2.false)

pub returns-then-popped-stack : goal.returns-then-popped-stack
unfolding move_trap first under
returns-then-popped-stack c place flow = elim c.then-popped-stack.branch [
  | then-popped-stack-via-then-popped-stack w ↦ rw (lt-ltb _ _ w.if-popped-stack.true)
  | then-popped-stack-via-else-popped-stack+then-popped-stack-2 w ↦ rw (le-ltb _ _ w.if-popped-stack.false, lt-ltb _ _ w.if-popped-stack-2.true)
]
