-- `gate_c::offset_need_count` meets its contract.
use Rattle.gate_c.proofs.offset_need_count.Goals as goal

pub returns-in-Ok : goal.returns-in-Ok
returns-in-Ok c = rw c.in-Ok.is

pub returns-in-Err : goal.returns-in-Err
returns-in-Err c = rw c.in-Err.is
