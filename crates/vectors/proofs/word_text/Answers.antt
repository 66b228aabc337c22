-- `vectors::word_text` meets its contract.
use Rattle.vectors.proofs.word_text.Goals as goal

pub returns : goal.returns
returns c =
    rw (
      c.hex_digit-4.ensures,
      c.hex_digit-3.ensures,
      c.hex_digit-2.ensures,
      c.hex_digit.ensures,
      c.low-l.ensures,
      c.high-h.ensures,
    )
