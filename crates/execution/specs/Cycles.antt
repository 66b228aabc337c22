-- The cycles of a step.
use Rattle.std.specs.Prelude.{ℕ, List}
use Rattle.stm8.specs.Cycles.{cycles, charged}
use Rattle.stm8.specs.declared.Instruction.{Instruction}
use Rattle.execution.specs.Computing.{computed}
use Rattle.execution.specs.declared.Registers.{Registers}
use Rattle.execution.specs.declared.StepAnswer.{StepAnswer}
use Rattle.execution.specs.declared.StepAnswer.TheVariants.{Made, Finished, Trap, Refused}

-- an instruction's, with the address after it: the figure for taken where its condition holds, wherever it then goes
unfoldable pub instruction_cycles : List ℕ → List ℕ → Registers → ℕ → Instruction → ℕ
instruction_cycles image memory regs next i = charged (cycles i) (computed image memory regs next i).taken

-- a trap, refusal or finished step costs none
abbrev pub cost_of : StepAnswer → ℕ → ℕ
cost_of Made cost = cost
cost_of Finished cost = 0
cost_of (Trap number) cost = 0
cost_of (Refused number) cost = 0
