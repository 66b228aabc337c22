-- What the private functions of the machine ask of each other. No public contract cites it.
use Rattle.std.specs.Prelude.{cond, eqb}
use Rattle.execution.specs.declared.StepAnswer.{StepAnswer}
use Rattle.execution.specs.declared.StepAnswer.TheVariants as Step
use Rattle.execution.specs.declared.Stepped.{Stepped}
use Rattle.machine.specs.declared.RunAnswer.{RunAnswer}
use Rattle.machine.specs.declared.RunAnswer.TheVariants.{Finished, Spent, Trap, Refused}
use Rattle.machine.specs.declared.Ran.{Ran}

-- the step that a run of one step tried: made where it counts one
abbrev pub tried_answer : RunAnswer → StepAnswer
tried_answer Finished = Step.Finished
tried_answer Spent = Step.Made
tried_answer (Trap number) = Step.Trap number
tried_answer (Refused number) = Step.Refused number

abbrev pub only_step : Ran → Stepped
only_step r = record { answer = cond (eqb r.steps 0) (tried_answer r.answer) Step.Made; registers = r.registers }
