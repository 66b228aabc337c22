-- `hex_records::digits::digit_of` meets its contract.
use Rattle.hex_records.specs.Digits.{digit_of}
use borrow.Author.Tests.{lt-ltb, le-ltb}
use Rattle.hex_records.proofs.digits.digit_of.Goals as goal

pub returns-then-n-lt10 : goal.returns-then-n-lt10
unfolding digit_of
returns-then-n-lt10 c = rw (lt-ltb _ _ c.if-n-lt10.true)

pub returns-else-n-lt10 : goal.returns-else-n-lt10
unfolding digit_of
returns-else-n-lt10 c = rw (le-ltb _ _ c.if-n-lt10.false)
