-- `storage::storing::put` meets its contract.
use Rattle.storage.specs.Storing.{memory_after}
use Rattle.storage.proofs.storing.put.Goals as goal

pub returns-in-Byte : goal.returns-in-Byte
unfolding memory_after
returns-in-Byte c = rw (c.put_byte.ensures, c.low.ensures, c.in-Byte.is)

pub returns-in-Word : goal.returns-in-Word
unfolding memory_after
returns-in-Word c = rw (
  c.put_byte-in-Word-2.ensures,
  c.put_byte-in-Word.ensures,
  c.low-second.ensures,
  c.high-first.ensures,
  c.in-Word.is,
)
