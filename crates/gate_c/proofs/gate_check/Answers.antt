-- `gate_c::gate_check` meets its contract.
use Rattle.gate_c.proofs.Answers.{checked_by}
use Rattle.gate_c.proofs.gate_check.Goals as goal

pub returns : goal.returns
returns c =
    let p =
    checked_by _ _ _ _ _ _ _ _ c.limits_in.ensures c.check-verdict.ensures.marks_value c.verdict_number.ensures c.offset_need_count.ensures in record {
      value = p.0;
      report_after = p.1.0;
      marks_after = p.1.1;
    }
