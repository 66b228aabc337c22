-- `records::back::put_listed` meets its contract.
use borrow.Author.Tests.{le-ltb, lt-ltb}
use Rattle.records.proofs.back.put_listed.Goals as goal

pub returns-then-k-given : goal.returns-then-k-given
returns-then-k-given c = rw (lt-ltb _ _ c.if-k-given.true) c.put_byte.ensures

pub returns-else-k-given : goal.returns-else-k-given
returns-else-k-given c = rw (le-ltb _ _ c.if-k-given.false)
