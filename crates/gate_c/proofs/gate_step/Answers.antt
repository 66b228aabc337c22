-- `gate_c::gate_step` meets its contract.
use Rattle.gate_c.proofs.Answers.{stepped_by}
use Rattle.gate_c.proofs.gate_step.Goals as goal

pub returns : goal.returns
returns c =
    let p =
    stepped_by _ _ _ _ _ _ _ _ _ _ _ _ _ c.limits_in.ensures c.registers_in.ensures c.step-s.ensures.memory_value c.step-s.ensures.cycles_value c.step-s.ensures.record_value
    c.step_number.ensures (c.register_cells.ensures.value, c.register_cells.ensures.result_value) (c.record_cells.ensures.value, c.record_cells.ensures.result_value) in record {
      memory_value = p.0;
      registers_after = p.1.0;
      before_after = p.1.1;
    }
