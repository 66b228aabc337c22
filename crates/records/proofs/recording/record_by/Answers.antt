-- `records::recording::record_by` meets its contract: the record of each kind of place.
use Rattle.execution.specs.Performing.{sp_after}
use Rattle.records.proofs.StoredBytes.{at_nowhere, at_direct, on_stack, as_pushed}
use Rattle.records.proofs.recording.record_by.Goals as goal

pub returns-in-Nowhere : goal.returns-in-Nowhere
returns-in-Nowhere c =
    at_nowhere c.args.registers c.args.memory.now (sp_after c.args.registers.sp c.args.e) c.args.e.place _ c.in-Nowhere.is
    (c.without_bytes.ensures c.args.memory.now)

pub returns-in-Direct : goal.returns-in-Direct
returns-in-Direct c =
    at_direct c.args.registers c.args.memory.now (sp_after c.args.registers.sp c.args.e) c.args.e.place _ _ _ c.in-Direct.is
    c.record_from.ensures

pub returns-in-OnStack : goal.returns-in-OnStack
returns-in-OnStack c =
    on_stack c.args.registers c.args.memory.now (sp_after c.args.registers.sp c.args.e) c.args.e.place _ _ _ c.in-OnStack.is
    c.record_from-in-OnStack.ensures

pub returns-in-Pushed : goal.returns-in-Pushed
returns-in-Pushed c =
    as_pushed c.args.registers c.args.memory.now (sp_after c.args.registers.sp c.args.e) c.args.e.place _ _ _ c.in-Pushed.is
    c.sp_after.ensures c.record_from-in-Pushed.ensures
