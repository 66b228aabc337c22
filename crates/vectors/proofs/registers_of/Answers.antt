-- `vectors::registers_of` meets its contract.
use Rattle.vectors.proofs.registers_of.Goals as goal

pub returns : goal.returns
returns c =
    rw (
      c.word_at-4.ensures,
      c.byte_at-3.ensures,
      c.word_at-3.ensures,
      c.byte_at-2.ensures,
      c.word_at-2.ensures,
      c.word_at.ensures,
      c.byte_at.ensures,
    )
