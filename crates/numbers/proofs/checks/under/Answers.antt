-- `numbers::checks::under` meets its contract: the test that led to each return picks the case.
use borrow.Author.Tests.{lt-ltb, le-ltb}
use Rattle.numbers.specs.Checks.{under}
use Rattle.numbers.proofs.checks.under.Goals as goal

pub returns-then-a-b : goal.returns-then-a-b
unfolding under
returns-then-a-b c = rw (lt-ltb _ _ c.if-a-b.true)

pub returns-else-a-b : goal.returns-else-a-b
unfolding under
returns-else-a-b c = rw (le-ltb _ _ c.if-a-b.false)
