-- `vectors::put_word_digits` meets its contract.
use native.Mathlib.Numerals.{add-two}
use Rattle.vectors.proofs.put_word_digits.Goals as goal

pub returns : goal.returns
returns c =
    rw (c.put_byte_digits-2.ensures, c.low.ensures, c.put_byte_digits.ensures, c.high.ensures, add-two)
