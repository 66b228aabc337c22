-- `hex_records::digits::capital` meets its contract.
use borrow.Author.Tests.{lt-ltb, le-ltb, le-leb, lt-leb}
use Rattle.hex_records.specs.Digits.{capital}
use Rattle.hex_records.proofs.digits.capital.Goals as goal

pub returns-then-c-lt97 : goal.returns-then-c-lt97
unfolding capital
returns-then-c-lt97 c = rw (lt-ltb _ _ c.if-c-lt97.true)

pub returns-then-c-le102 : goal.returns-then-c-le102
unfolding capital
returns-then-c-le102 c = rw (le-ltb _ _ c.if-c-lt97.false, le-leb _ _ c.if-c-le102.true)

pub returns-else-c-le102 : goal.returns-else-c-le102
unfolding capital
returns-else-c-le102 c = rw (le-ltb _ _ c.if-c-lt97.false, lt-leb _ _ c.if-c-le102.false)
