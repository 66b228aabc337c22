-- `machine::run` meets its contract: refused, or a run of a valid image.
use mathlib.Core.Path.{sym, ◌∙◌}
use Rattle.machine.proofs.StepLaws.{refuses, validates}
use Rattle.machine.proofs.RunLaws.{refused_at_once}
use Rattle.machine.proofs.CycleLaws.{none_refused}
use Rattle.machine.proofs.Numbers.{run_answered}
use Rattle.machine.proofs.run.Goals as goal

pub run_valid-requires : goal.run_valid-requires
run_valid-requires c =
    let valid = validates c.args.image.now c.args.limits c.args.memory.now _ (sym c.in-Ok.ensures) in record {
      valid = valid.1;
      passes = valid.0;
    }

pub returns-in-Err : goal.returns-in-Err
returns-in-Err c =
    let refused = refuses c.args.image.now c.args.limits c.args.memory.now _ (sym c.in-Err.ensures) in
    let answered = run_answered c.args.image.now c.args.limits c.args.budget c.args.registers c.args.memory.now c.ended.result.ran c.args.memory.now
    (rw (refused_at_once c.args.budget c.args.image.now c.args.limits c.args.registers c.args.memory.now _ refused, c.ended.ensures, c.number.ensures)) in record {
      outcome = answered.0;
      run_numbered = answered.1;
      cost = rw (c.ended.ensures, none_refused c.args.image.now c.args.limits c.args.registers c.args.memory.now c.args.budget _ refused);
    }

pub returns-in-Ok : goal.returns-in-Ok
returns-in-Ok c =
    let answered = run_answered _ _ _ _ _ _ _ c.run_valid.ensures.outcome in record {
      outcome = answered.0;
      run_numbered = answered.1;
      cost = c.run_valid.ensures.cost;
    }
