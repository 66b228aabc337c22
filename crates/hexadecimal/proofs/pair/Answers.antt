-- `hexadecimal::pair` meets its contract.
use Rattle.hexadecimal.proofs.Spelling.{two_digits, not_second, not_first}
use Rattle.hexadecimal.proofs.pair.Goals as goal

pub returns-then-low-lt16 : goal.returns-then-low-lt16
returns-then-low-lt16 c =
    two_digits _ _ _ _ c.digit-high.ensures c.digit-low.ensures c.if-high-lt16.true c.if-low-lt16.true

pub returns-else-low-lt16 : goal.returns-else-low-lt16
returns-else-low-lt16 c =
    not_second _ _ _ _ c.digit-high.ensures c.digit-low.ensures c.if-high-lt16.true c.if-low-lt16.false

pub returns-else-high-lt16 : goal.returns-else-high-lt16
returns-else-high-lt16 c = not_first _ _ _ c.digit-high.ensures c.if-high-lt16.false
