-- `encoder::at_bit` meets its contract: the test says whether the bit position is in range.
use borrow.Author.Tests.{le-leb, lt-leb}
use Rattle.encoder.proofs.at_bit.Goals as goal

pub returns-then-position-le7 : goal.returns-then-position-le7
returns-then-position-le7 c = rw (c.append_word.ensures, c.two_bytes.ensures, le-leb _ _ c.if-position-le7.true)

pub returns-else-position-le7 : goal.returns-else-position-le7
returns-else-position-le7 c = rw (lt-leb _ _ c.if-position-le7.false)
