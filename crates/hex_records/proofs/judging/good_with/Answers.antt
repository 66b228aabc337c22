-- `hex_records::judging::good_with` meets its contract.
use borrow.Author.Tests.{lt-ltb, le-ltb}
use Rattle.hex_records.proofs.judging.good_with.Goals as goal

pub returns-then-value-lt256 : goal.returns-then-value-lt256
returns-then-value-lt256 c = rw (lt-ltb _ _ c.if-value-lt256.true)

pub returns-else-value-lt256 : goal.returns-else-value-lt256
returns-else-value-lt256 c = rw (le-ltb _ _ c.if-value-lt256.false)
