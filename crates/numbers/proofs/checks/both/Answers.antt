-- `numbers::checks::both` meets its contract: the test that led to each return picks the case.
use borrow.Author.Tests.{eq-eqb, ne_eqb}
use Rattle.numbers.specs.Checks.{both}
use Rattle.numbers.proofs.checks.both.Goals as goal

pub returns-then-a-eq0 : goal.returns-then-a-eq0
unfolding both
returns-then-a-eq0 c = rw (eq-eqb _ _ c.if-a-eq0.true)

pub returns-else-a-eq0 : goal.returns-else-a-eq0
unfolding both
returns-else-a-eq0 c = rw (ne_eqb _ _ c.if-a-eq0.false)
