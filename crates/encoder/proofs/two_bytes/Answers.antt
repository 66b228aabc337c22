-- `encoder::two_bytes` meets its contract.
use Rattle.encoder.proofs.two_bytes.Goals as goal

pub returns : goal.returns
returns c = rw (c.append.ensures, c.one_byte.ensures)
