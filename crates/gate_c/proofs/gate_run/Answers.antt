-- `gate_c::gate_run` meets its contract.
use mathlib.Core.Path.{refl}
use Rattle.gate_c.proofs.Answers.{ran_by}
use Rattle.gate_c.proofs.gate_run.Goals as goal

pub returns : goal.returns
returns c =
    let p =
    ran_by _ _ _ _ _ _ _ _ _ _ _ _ _ c.limits_in.ensures c.registers_in.ensures c.run-timed.ensures.outcome c.run-timed.ensures.cost
    c.run_number.ensures (c.register_cells.ensures.value, c.register_cells.ensures.result_value) refl in record {
      memory_value = p.0;
      registers_after = p.1;
    }
