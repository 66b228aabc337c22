-- `numbers::checks::differ` meets its contract: the test that led to each return picks the case.
use borrow.Author.Tests.{eq-eqb, ne_eqb}
use Rattle.numbers.specs.Checks.{differ}
use Rattle.numbers.proofs.checks.differ.Goals as goal

pub returns-then-a-b : goal.returns-then-a-b
unfolding differ
returns-then-a-b c = rw (eq-eqb _ _ c.if-a-b.true)

pub returns-else-a-b : goal.returns-else-a-b
unfolding differ
returns-else-a-b c = rw (ne_eqb _ _ c.if-a-b.false)
