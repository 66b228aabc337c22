-- `gate_c::record_cells` meets its contract: a value fits its type, so it is read back.
use Rattle.gate_c.proofs.Answers.{read_record}
use Rattle.gate_c.proofs.record_cells.Goals as goal

pub returns : goal.returns
returns c =
    let p =
    read_record c.args.r _ _ _ (c.register_cells-registers.ensures.value, c.register_cells-registers.ensures.result_value) c.byte_cell-lower.ensures c.byte_cell-upper.ensures in record {
      value = p.0;
      result_value = p.1;
    }
