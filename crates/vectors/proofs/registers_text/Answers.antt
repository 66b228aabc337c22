-- `vectors::registers_text` meets its contract: the digits stand where the dots stood.
use Rattle.vectors.proofs.registers_text.Goals as goal

pub returns : goal.returns
returns c =
    rw (
      c.put_word_digits-4.ensures,
      c.put_byte_digits-3.ensures,
      c.put_word_digits-3.ensures,
      c.put_byte_digits-2.ensures,
      c.put_word_digits-2.ensures,
      c.put_word_digits.ensures,
      c.put_byte_digits.ensures,
      c.copy.ensures,
    )
