-- `encoder::on_register` meets its contract, for either register.
use Rattle.encoder.proofs.on_register.Goals as goal

pub returns-in-X : goal.returns-in-X
returns-in-X c = rw (c.one_byte.ensures, c.in-X.is)

pub returns-in-Y : goal.returns-in-Y
returns-in-Y c = rw (c.two_bytes.ensures, c.in-Y.is)
