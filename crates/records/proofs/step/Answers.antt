-- `records::step` meets its contract: what was read before the step is what its record asks for.
use Rattle.records.proofs.StoredBytes.{recorded_by}
use Rattle.records.proofs.step.Goals as goal

pub returns : goal.returns
returns c = record {
  memory_value = c.step-timed.ensures.outcome;
  step_numbered = c.step-timed.ensures.step_numbered;
  cycles_value = c.step-timed.ensures.cost;
  record_value = recorded_by _ _ _ _ _ _ _ _ c.step-timed.ensures.outcome c.record_at-before.ensures c.record_of-record.ensures;
}
