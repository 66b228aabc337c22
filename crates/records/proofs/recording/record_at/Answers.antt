-- `records::recording::record_at` meets its contract.
use Rattle.records.proofs.StoredBytes.{by_none, by_effect}
use Rattle.records.proofs.recording.record_at.Goals as goal

pub returns-in-Ok : goal.returns-in-Ok
returns-in-Ok c follows =
    by_effect c.args.registers c.args.memory.now _ _ _ (c.fetch.ensures follows) _ _ _ c.record_by.ensures c.effect_of.ensures c.in-Ok.is

pub returns-in-Err : goal.returns-in-Err
returns-in-Err c follows =
    by_none c.args.registers c.args.memory.now _ _ _ (c.fetch.ensures follows) c.in-Err.is (c.without_bytes.ensures c.args.memory.now)
