-- A run: steps until the routine finishes, traps or the steps are used up.
use Rattle.std.specs.Prelude.{ℕ, zero, suc, ◌+◌, ◌≤◌, ◌≡◌, cond, List, eqb}
use Rattle.image.specs.declared.Limits.{Limits}
use Rattle.machine.specs.Step.{stepped, step_refusal}
use Rattle.execution.specs.declared.Registers.{Registers}
use Rattle.execution.specs.declared.StepAnswer.{StepAnswer}
use Rattle.execution.specs.declared.StepAnswer.TheVariants as Step
use Rattle.machine.specs.declared.RunAnswer.{RunAnswer}
use Rattle.machine.specs.declared.RunAnswer.TheVariants.{Finished, Spent, Trap, Refused}
use Rattle.machine.specs.declared.Ran.{Ran}

abbrev pub ended : RunAnswer → Registers → List ℕ → Ran × List ℕ
ended answer regs memory = (record { answer = answer; registers = regs; steps = 0 }, memory)

-- k steps more than a run
abbrev pub more_steps : ℕ → Ran × List ℕ → Ran × List ℕ
more_steps k r = (record { answer = r.0.answer; registers = r.0.registers; steps = r.0.steps + k }, r.1)

-- only a step that is made is counted, and the run goes on from it
abbrev pub after_step : StepAnswer → Registers → List ℕ → Ran × List ℕ → Ran × List ℕ
after_step Step.Made regs memory rest = more_steps 1 rest
after_step Step.Finished regs memory rest = ended Finished regs memory
after_step (Step.Trap number) regs memory rest = ended (Trap number) regs memory
after_step (Step.Refused number) regs memory rest = ended (Refused number) regs memory

-- no steps left: refused, finished where PC is 0, else spent
unfoldable pub no_steps_left : List ℕ → Limits → Registers → List ℕ → Ran × List ℕ
no_steps_left image limits regs memory =
    let number = step_refusal image limits memory in
    cond (eqb number 0) (ended (cond (eqb regs.pc 0) Finished Spent) regs memory) (ended (Refused number) regs memory)

unfoldable pub ran : ℕ → List ℕ → Limits → Registers → List ℕ → Ran × List ℕ
ran zero image limits regs memory = no_steps_left image limits regs memory
ran (suc budget) image limits regs memory =
    let s = stepped image limits regs memory in
    after_step s.0.answer regs memory (ran budget image limits s.0.registers s.1)

-- two runs, the second from where the first one came to: it counts on where the first was spent, and any other answer stands
abbrev pub in_parts : RunAnswer → Ran × List ℕ → Ran × List ℕ → Ran × List ℕ
in_parts Finished first second = first
in_parts Spent first second = more_steps first.0.steps second
in_parts (Trap number) first second = first
in_parts (Refused number) first second = first

-- the number of an answer: document 01's, and where it has none 64 finished and 65 spent, which it gives to no refusal or trap
abbrev pub run_number : RunAnswer → ℕ
run_number Finished = 64
run_number Spent = 65
run_number (Trap number) = number
run_number (Refused number) = number

-- what that number tells of a run: the refusal's where there is one, else 64 finished, 65 spent, or a trap's
pub record RunNumbered (refused : ℕ) (answer : RunAnswer) : Type 0 where
  pub refusal : (refused ≡ 0 → ⊥) → run_number answer ≡ refused
  pub finished : run_number answer ≡ 64 → answer ≡ Finished
  pub spent : run_number answer ≡ 65 → answer ≡ Spent
  pub trap : refused ≡ 0 → (run_number answer ≡ 64 → ⊥) → (run_number answer ≡ 65 → ⊥) → (21 ≤ run_number answer) × (run_number answer ≤ 25)

-- what an answer says of a run with a budget: finished, PC is 0; spent, the steps equal the budget and PC is not 0
abbrev pub Says : ℕ → Ran → RunAnswer → Type 0
Says budget r Finished = r.registers.pc ≡ 0
Says budget r Spent = (r.steps ≡ budget) × (r.registers.pc ≡ 0 → ⊥)
Says budget r (Trap number) = Unit {0}
Says budget r (Refused number) = Unit {0}

abbrev pub Told : ℕ → Ran × List ℕ → Type 0
Told budget r = Says budget r.0 r.0.answer
