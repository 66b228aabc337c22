-- `vectors::put_byte_digits` meets its contract.
use native.Mathlib.Numerals.{add-one}
use Rattle.vectors.proofs.put_byte_digits.Goals as goal

pub returns : goal.returns
returns c =
    rw (c.put_byte-2.ensures, c.hex_digit-2.ensures, c.put_byte.ensures, c.hex_digit.ensures, add-one)
