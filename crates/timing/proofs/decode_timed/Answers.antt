-- `timing::decode_timed` meets its contract.
use Rattle.timing.proofs.decode_timed.Goals as goal

pub returns : goal.returns
returns c = rw (c.with_cycles.ensures, c.decode.ensures)
