-- `numbers::checks::unless` meets its contract: the test that led to each return picks the case.
use Rattle.numbers.specs.Checks.{unless}
use Rattle.numbers.proofs.checks.unless.Goals as goal

pub returns-then-holds : goal.returns-then-holds
unfolding unless
returns-then-holds c = rw c.if-holds.true

pub returns-else-holds : goal.returns-else-holds
unfolding unless
returns-else-holds c = rw c.if-holds.false
