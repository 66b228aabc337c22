-- `encoder::append_word` meets its contract.
use Rattle.encoder.proofs.append_word.Goals as goal

pub returns : goal.returns
returns c = rw (c.append-2.ensures, c.low.ensures, c.append.ensures, c.high.ensures)
