-- `timing::decode_timed_by` meets its contract.
use Rattle.timing.proofs.decode_timed_by.Goals as goal

pub returns : goal.returns
returns c = rw (c.with_cycles.ensures, c.decode_by.ensures)
