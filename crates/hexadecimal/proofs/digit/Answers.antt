-- `hexadecimal::digit` meets its contract.
use borrow.Author.Tests.{lt-ltb, le-ltb, le-leb, lt-leb}
use Rattle.hexadecimal.specs.Text.{digit}
use Rattle.hexadecimal.proofs.digit.Goals as goal

pub returns-then-c-lt48 : goal.returns-then-c-lt48
unfolding digit
returns-then-c-lt48 c = rw (lt-ltb _ _ c.if-c-lt48.true)

pub returns-then-c-le57 : goal.returns-then-c-le57
unfolding digit
returns-then-c-le57 c = rw (le-ltb _ _ c.if-c-lt48.false, le-leb _ _ c.if-c-le57.true)

pub returns-then-c-lt65 : goal.returns-then-c-lt65
unfolding digit
returns-then-c-lt65 c = rw (le-ltb _ _ c.if-c-lt48.false, lt-leb _ _ c.if-c-le57.false, lt-ltb _ _ c.if-c-lt65.true)

pub returns-then-c-le70 : goal.returns-then-c-le70
unfolding digit
returns-then-c-le70 c =
    rw (le-ltb _ _ c.if-c-lt48.false, lt-leb _ _ c.if-c-le57.false, le-ltb _ _ c.if-c-lt65.false, le-leb _ _ c.if-c-le70.true)

pub returns-else-c-le70 : goal.returns-else-c-le70
unfolding digit
returns-else-c-le70 c =
    rw (le-ltb _ _ c.if-c-lt48.false, lt-leb _ _ c.if-c-le57.false, le-ltb _ _ c.if-c-lt65.false, lt-leb _ _ c.if-c-le70.false)
