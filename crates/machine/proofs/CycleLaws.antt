-- The cycles of a step and of a run.
use Prim.Native.Nat.{ℕ, zero, suc, ◌+◌, ◌-◌, ◌≤◌}
use mathlib.Core.Path.{◌≡◌, refl, ap, ◌∙◌}
use mathlib.Core.List.{List}
use native.Mathlib.Numerals.{add-one}
use native.Mathlib.Nat.{add-zero}
use native.Mathlib.Omega.{arith}
use Rattle.std.specs.Prelude.{Ok, Err}
use Rattle.numbers.specs.Folds.{total}
use Rattle.stm8.specs.Decoding.{Decoded}
use Rattle.stm8.proofs.CycleLaws.{charged_most}
use Rattle.stm8.specs.declared.Condition.TheVariants.{Jrf}
use Rattle.stm8.specs.declared.Instruction.{Instruction}
use Rattle.stm8.specs.declared.Instruction.TheVariants.{Jump}
use Rattle.image.specs.declared.Limits.{Limits}
use Rattle.image.specs.Image.{base_of}
use Rattle.code.specs.Code.{instruction_in}
use Rattle.execution.specs.Computing.{computed}
use Rattle.execution.specs.Cycles.{instruction_cycles, cost_of}
use Rattle.execution.specs.declared.Registers.{Registers}
use Rattle.execution.specs.declared.StepAnswer.{StepAnswer}
use Rattle.execution.specs.declared.StepAnswer.TheVariants.{Made, Finished, Trap, Refused}
use Rattle.execution.specs.declared.Stepped.{Stepped}
use Rattle.machine.specs.Step.{step_valid, step_refusal, stepped}
use Rattle.machine.specs.Cycles.{decoded_cycles, cycles_at, step_cycles, after_cycles, cycles_made, run_cycles}
use Rattle.machine.proofs.StepLaws.{step_refused, step_valid_lem}

-- where an instruction stands at PC, they are its own
pub at_found : (image : List ℕ) (regs : Registers) (memory : List ℕ) (i : Instruction) (n : ℕ) →
    instruction_in image (regs.pc - base_of image) ≡ Ok (i, n) → cycles_at image regs memory ≡ instruction_cycles image memory regs (regs.pc + n) i
unfolding cycles_at
at_found image regs memory i n e = ap (decoded_cycles image regs memory) e

-- JRF is always not taken
pub never_taken : (image memory : List ℕ) (regs : Registers) (next n : ℕ) → instruction_cycles image memory regs next (Jump Jrf n) ≡ 1
unfolding instruction_cycles computed
never_taken image memory regs next n = refl

-- four at the most
decoded_most : (image : List ℕ) (regs : Registers) (memory : List ℕ) (d : Decoded) → decoded_cycles image regs memory d ≤ 4
unfolding instruction_cycles
decoded_most image regs memory (Ok (i, n)) = charged_most i (computed image memory regs (regs.pc + n) i).taken
decoded_most image regs memory (Err e) = omega arith

pub at_most : (image : List ℕ) (regs : Registers) (memory : List ℕ) → cycles_at image regs memory ≤ 4
unfolding cycles_at
at_most image regs memory = decoded_most image regs memory (instruction_in image (regs.pc - base_of image))

-- a run with a step left: the step's cycles, where it is made, and those of the rest
abbrev pub after : StepAnswer → ℕ → ℕ → ℕ
after Made cycles rest = cycles + rest
after Finished cycles rest = 0
after (Trap number) cycles rest = 0
after (Refused number) cycles rest = 0

module _ (image : List ℕ) (limits : Limits) (regs : Registers) (memory : List ℕ) where
  after_total : (answer : StepAnswer) (cycles : ℕ) (rest : List ℕ) → total (after_cycles answer (cost_of answer cycles) rest) ≡ after answer cycles (total rest)
  unfolding total
  after_total Made cycles rest = refl
  after_total Finished cycles rest = refl
  after_total (Trap number) cycles rest = refl
  after_total (Refused number) cycles rest = refl

  pub one_more : (left rest : ℕ) → left ≡ rest + 1 → (s : Stepped) (memory' : List ℕ) → stepped image limits regs memory ≡ (s, memory') →
      run_cycles left image limits regs memory ≡ after s.answer (cycles_at image regs memory) (run_cycles rest image limits s.registers memory')
  unfolding run_cycles cycles_made step_cycles
  one_more left rest one s memory' is =
      rw (one, add-one, is) (after_total s.answer (cycles_at image regs memory) (cycles_made rest image limits s.registers memory'))

  -- no steps are left
  pub none_left : (left : ℕ) → left ≡ 0 → run_cycles left image limits regs memory ≡ 0
  unfolding run_cycles cycles_made total
  none_left left none = rw none

  -- a run that is refused makes no step
  pub none_refused : (budget number : ℕ) → (step_refusal image limits memory ≡ number) × (number ≡ 0 → ⊥) → run_cycles budget image limits regs memory ≡ 0
  none_refused zero number h = none_left 0 refl
  none_refused (suc budget) number h =
      one_more (suc budget) budget (omega arith) _ _ (step_refused image limits regs memory number h.0 h.1)

  module _ (valid : step_refusal image limits memory ≡ 0) (left rest : ℕ) (one : left ≡ rest + 1) (s : Stepped) (memory' : List ℕ)
      (is : step_valid image limits regs memory ≡ (s, memory')) where
    counted : run_cycles left image limits regs memory ≡ after s.answer (cycles_at image regs memory) (run_cycles rest image limits s.registers memory')
    counted = one_more left rest one s memory' (step_valid_lem image limits regs memory valid ∙ is)

    pub cycles_on : s.answer ≡ Made →
        run_cycles left image limits regs memory ≡ cycles_at image regs memory + run_cycles rest image limits s.registers memory'
    cycles_on made = counted ∙ rw made

    pub cycles_finished : s.answer ≡ Finished → run_cycles left image limits regs memory ≡ 0
    cycles_finished e = counted ∙ rw e

    pub cycles_trapped : (n : ℕ) → s.answer ≡ Trap n → run_cycles left image limits regs memory ≡ 0
    cycles_trapped n e = counted ∙ rw e

    pub cycles_refused : (n : ℕ) → s.answer ≡ Refused n → run_cycles left image limits regs memory ≡ 0
    cycles_refused n e = counted ∙ rw e

alone : (answer : StepAnswer) (cycles : ℕ) → after answer cycles 0 ≡ cost_of answer cycles
alone Made cycles = add-zero cycles
alone Finished cycles = refl
alone (Trap number) cycles = refl
alone (Refused number) cycles = refl

-- a step's are those of a run of one step
pub one_step : (image : List ℕ) (limits : Limits) (regs : Registers) (memory : List ℕ) →
    run_cycles 1 image limits regs memory ≡ step_cycles image limits regs memory
unfolding step_cycles
one_step image limits regs memory =
    let s = stepped image limits regs memory in
    one_more image limits regs memory 1 0 refl s.0 s.1 refl ∙
    ap (after s.0.answer (cycles_at image regs memory)) (none_left image limits s.0.registers s.1 0 refl) ∙
    alone s.0.answer (cycles_at image regs memory)
