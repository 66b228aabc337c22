-- `gate_c::register_cells` meets its contract: a register fits its type, so it is read back.
use mathlib.Core.Path.{refl}
use native.Mathlib.Omega.{arith}
use Rattle.gate_c.proofs.Answers.{read_back}
use Rattle.gate_c.proofs.register_cells.Goals as goal

pub returns : goal.returns
returns c =
    let r = c.args.r in record {
      value = refl;
      result_value = read_back r (record { a = omega arith; x = omega arith; y = omega arith; cc = omega arith; sp = omega arith });
    }
