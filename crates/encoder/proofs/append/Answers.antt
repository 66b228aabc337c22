-- `encoder::append` meets its contract: the tests on the length that led to each return pick the case.
use borrow.Author.Tests.{le-ltb, lt-ltb, ne_eqb}
use Rattle.encoder.proofs.append.Goals as goal

pub returns-then-length-eq0 : goal.returns-then-length-eq0
returns-then-length-eq0 c = rw c.if-length-eq0.true

pub returns-then-length-lt5 : goal.returns-then-length-lt5
returns-then-length-lt5 c = rw (ne_eqb _ _ c.if-length-eq0.false, lt-ltb _ _ c.if-length-lt5.true)

pub returns-else-length-lt5 : goal.returns-else-length-lt5
returns-else-length-lt5 c = rw (ne_eqb _ _ c.if-length-eq0.false, le-ltb _ _ c.if-length-lt5.false)
