-- `gate_c::gate_turn` meets its contract.
use Rattle.gate_c.proofs.Answers.{turned_by}
use Rattle.gate_c.proofs.gate_turn.Goals as goal

pub returns : goal.returns
returns c =
    let p =
    turned_by _ _ _ _ _ _ _ c.limits_in.ensures c.turn-answer.ensures.marks_value c.values_of-values.ensures in record {
      value = p.0;
      offset_after = p.1.0;
      most_after = p.1.1.0;
      marks_after = p.1.1.1;
    }
