-- `gate_c::gate_step_back` meets its contract.
use Rattle.gate_c.proofs.Answers.{back_by}
use Rattle.gate_c.proofs.gate_step_back.Goals as goal

pub returns : goal.returns
returns c =
    let p =
    back_by _ _ _ _ _ _ c.record_in.ensures c.step_back-back.ensures (c.register_cells.ensures.value, c.register_cells.ensures.result_value) in record {
      memory_value = p.0;
      registers_after = p.1;
    }
