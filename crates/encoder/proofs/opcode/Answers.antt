-- `encoder::opcode` meets its contract: the tests that led to each return pick the case.
use borrow.Author.Tests.{ne_eqb}
use Rattle.encoder.proofs.opcode.Goals as goal

pub returns-then-code-eq0 : goal.returns-then-code-eq0
returns-then-code-eq0 c = rw c.if-code-eq0.true

pub returns-then-precode-eq0 : goal.returns-then-precode-eq0
returns-then-precode-eq0 c = rw (c.one_byte.ensures, ne_eqb _ _ c.if-code-eq0.false, c.if-precode-eq0.true)

pub returns-else-precode-eq0 : goal.returns-else-precode-eq0
returns-else-precode-eq0 c = rw (c.two_bytes.ensures, ne_eqb _ _ c.if-code-eq0.false, ne_eqb _ _ c.if-precode-eq0.false)
