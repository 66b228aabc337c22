-- `timing::decode_timed_for` meets its contract.
use Rattle.timing.proofs.decode_timed_for.Goals as goal

pub returns : goal.returns
returns c = rw (c.with_cycles.ensures, c.decode_for.ensures)
