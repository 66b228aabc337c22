-- `gate_c::gate_start` meets its contract.
use Rattle.gate_c.proofs.Answers.{started_by_lem}
use Rattle.gate_c.proofs.gate_start.Goals as goal

pub returns : goal.returns
returns c =
    let p =
    started_by_lem _ _ _ _ _ _ _ _ _ _ _ _ _ c.limits_in.ensures c.registers_in-given.ensures c.start-s.ensures.cc_value
    c.verdict_number.ensures c.offset_need_count.ensures (c.register_cells.ensures.value, c.register_cells.ensures.result_value) in record {
      registers_value = p.0;
      registers_after = p.1;
    }
