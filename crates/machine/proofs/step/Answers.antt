-- `machine::step` meets its contract: a step is a run of one step.
use mathlib.Core.Path.{◌∙◌}
use Rattle.machine.proofs.OnlyStep.{step_by_run}
use Rattle.machine.proofs.CycleLaws.{one_step}
use Rattle.machine.proofs.Numbers.{step_answered}
use Rattle.machine.proofs.step.Goals as goal

pub returns : goal.returns
returns c =
    let answered = step_answered _ _ _ _ _ _ (step_by_run _ _ _ _ _ _ _ c.run-timed.ensures.outcome c.only_step.ensures) in record {
      outcome = answered.0;
      step_numbered = answered.1;
      cost = c.run-timed.ensures.cost ∙ one_step _ _ _ _;
    }
