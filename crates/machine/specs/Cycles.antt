-- The cycles of a step, and of a run: their sum over the steps made.
use Rattle.std.specs.Prelude.{ℕ, zero, suc, ◌+◌, ◌-◌, List, [], ◌∷◌, Ok, Err}
use Rattle.stm8.specs.Decoding.{Decoded}
use Rattle.numbers.specs.Folds.{total}
use Rattle.image.specs.declared.Limits.{Limits}
use Rattle.image.specs.Image.{base_of}
use Rattle.code.specs.Code.{instruction_in}
use Rattle.execution.specs.Cycles.{instruction_cycles, cost_of}
use Rattle.execution.specs.declared.Registers.{Registers}
use Rattle.execution.specs.declared.StepAnswer.{StepAnswer}
use Rattle.execution.specs.declared.StepAnswer.TheVariants.{Made, Finished, Trap, Refused}
use Rattle.machine.specs.Step.{stepped}

-- the cycles of what stands at PC
abbrev pub decoded_cycles : List ℕ → Registers → List ℕ → Decoded → ℕ
decoded_cycles image regs memory (Ok (i, n)) = instruction_cycles image memory regs (regs.pc + n) i
decoded_cycles image regs memory (Err e) = 0

unfoldable pub cycles_at : List ℕ → Registers → List ℕ → ℕ
cycles_at image regs memory = decoded_cycles image regs memory (instruction_in image (regs.pc - base_of image))

-- a step's: those of its instruction where it is made, else none
unfoldable pub step_cycles : List ℕ → Limits → Registers → List ℕ → ℕ
step_cycles image limits regs memory = cost_of (stepped image limits regs memory).0.answer (cycles_at image regs memory)

-- those of the steps that a run makes, one by one
abbrev pub after_cycles : StepAnswer → ℕ → List ℕ → List ℕ
after_cycles Made cycles rest = cycles ∷ rest
after_cycles Finished cycles rest = []
after_cycles (Trap number) cycles rest = []
after_cycles (Refused number) cycles rest = []

unfoldable pub cycles_made : ℕ → List ℕ → Limits → Registers → List ℕ → List ℕ
cycles_made zero image limits regs memory = []
cycles_made (suc budget) image limits regs memory =
    let s = stepped image limits regs memory in
    after_cycles s.0.answer (step_cycles image limits regs memory) (cycles_made budget image limits s.0.registers s.1)

-- a run's
unfoldable pub run_cycles : ℕ → List ℕ → Limits → Registers → List ℕ → ℕ
run_cycles budget image limits regs memory = total (cycles_made budget image limits regs memory)
