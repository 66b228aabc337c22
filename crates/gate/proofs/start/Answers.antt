-- `gate::start` meets its contract: each answer is one way through a start.
use Rattle.gate.proofs.Starting.{start_17, start_refused, start_accepted, numbered_17, numbered_check, start_ready}
use Rattle.gate.proofs.start.Goals as goal

pub returns-then-memory-ne32768 : goal.returns-then-memory-ne32768
returns-then-memory-ne32768 c = record {
  cc_value = rw (c.refused.ensures, c.of_rule.ensures) (start_17 _ _ _ _ _ _ _ _ c.if-memory-ne32768.true);
  verdict_numbered = rw (c.refused.ensures, c.of_rule.ensures) numbered_17;
}

pub begin-registers-requires : goal.begin-registers-requires
begin-registers-requires c =
    let ready = start_ready _ _ _ c.args.memory.now c.check_begins-checked.result.verdict _ _ _ c.if-memory-ne32768.false c.check_begins-checked.ensures.marks_value c.in-Ok.is in record {
      image_rules = (ready.0, c.check_begins-checked.ensures.by_index _ _ c.in-Ok.is);
      le_high = ready.1;
    }

pub returns-in-Err : goal.returns-in-Err
returns-in-Err c = record {
  cc_value = rw c.refused-in-Err.ensures
      (start_refused _ _ _ _ _ _ _ _ c.if-memory-ne32768.false c.check_begins-checked.result.verdict _ c.check_begins-checked.ensures.marks_value _ _ c.in-Err.is);
  verdict_numbered = rw c.refused-in-Err.ensures (numbered_check c.check_begins-checked.ensures.verdict_numbered);
}

pub returns-in-Ok : goal.returns-in-Ok
returns-in-Ok c = record {
  cc_value = rw (c.begin-registers.ensures.value, c.begin-registers.ensures.memory_after) (start_accepted _ _ _ _ _ _ _ _ c.if-memory-ne32768.false c.check_begins-checked.result.verdict _ c.check_begins-checked.ensures.marks_value _ _ c.in-Ok.is);
  verdict_numbered = numbered_check c.check_begins-checked.ensures.verdict_numbered;
}
