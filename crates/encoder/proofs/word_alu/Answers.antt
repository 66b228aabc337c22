-- `encoder::word_alu` meets its contract. In each arm the variant is known: a line for what the arm's calls ask, then one for what it returns.
use Rattle.encoder.proofs.Forms.{on_register_word}
use Rattle.encoder.proofs.word_alu.Goals as goal

pub returns-in-X : goal.returns-in-X
returns-in-X c = rw (c.append_word.ensures, c.one_byte.ensures, c.in-Addw.is, c.in-X.is)

pub returns-in-Y : goal.returns-in-Y
returns-in-Y c = rw (c.append_word-in-Y.ensures, c.two_bytes.ensures, c.in-Addw.is, c.in-Y.is)

pub returns-in-X-r : goal.returns-in-X-r
returns-in-X-r c = rw (c.append_word-in-X-r.ensures, c.one_byte-in-X-r.ensures, c.in-Subw.is, c.in-X-r.is)

pub returns-in-Y-r : goal.returns-in-Y-r
returns-in-Y-r c = rw (c.append_word-in-Y-r.ensures, c.two_bytes-in-Y-r.ensures, c.in-Subw.is, c.in-Y-r.is)

pub returns-in-Cpw : goal.returns-in-Cpw
returns-in-Cpw c = rw (c.append_word-in-Cpw.ensures, c.on_register.ensures, c.in-Cpw.is, on_register_word)
