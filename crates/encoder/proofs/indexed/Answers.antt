-- `encoder::indexed` meets its contract. In each arm the variant is known: a line for what the arm's calls ask, then one for what it returns.
use Rattle.encoder.proofs.Forms.{on_register_byte, on_register_word}
use Rattle.encoder.proofs.indexed.Goals as goal

pub returns-in-Word : goal.returns-in-Word
returns-in-Word c = rw (c.append_word.ensures, c.on_register.ensures, c.in-Word.is, on_register_word)

pub returns-in-Byte : goal.returns-in-Byte
returns-in-Byte c = rw (c.append.ensures, c.on_register-in-Byte.ensures, c.in-Byte.is, on_register_byte)

pub returns-in-Zero : goal.returns-in-Zero
returns-in-Zero c = rw (c.on_register-in-Zero.ensures, c.in-Zero.is)
