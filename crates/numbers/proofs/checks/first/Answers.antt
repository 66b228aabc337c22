-- `numbers::checks::first` meets its contract: the test that led to each return picks the case.
use borrow.Author.Tests.{eq-eqb, ne_eqb}
use Rattle.numbers.specs.Checks.{first}
use Rattle.numbers.proofs.checks.first.Goals as goal

pub returns-then-a-eq0 : goal.returns-then-a-eq0
unfolding first
returns-then-a-eq0 c = rw (eq-eqb _ _ c.if-a-eq0.true)

pub returns-else-a-eq0 : goal.returns-else-a-eq0
unfolding first
returns-else-a-eq0 c = rw (ne_eqb _ _ c.if-a-eq0.false)
