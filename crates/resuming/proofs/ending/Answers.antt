-- `resuming::ending` meets its contract.
use borrow.Author.Tests.{eq-eqb, ne_eqb}
use Rattle.resuming.proofs.ending.Goals as goal

pub returns-then-registers-eq0 : goal.returns-then-registers-eq0
returns-then-registers-eq0 c = rw (eq-eqb _ _ c.if-registers-eq0.true)

pub returns-else-registers-eq0 : goal.returns-else-registers-eq0
returns-else-registers-eq0 c = rw (ne_eqb _ _ c.if-registers-eq0.false)
