-- A step is a run of one step.
use Prim.Native.Nat.{ℕ}
use mathlib.Core.Path.{◌≡◌, refl, ap, ◌∙◌}
use mathlib.Core.List.{List}
use lib.Dec.{eqb}
use Rattle.numbers.proofs.Checking.{by_test}
use Rattle.image.specs.declared.Limits.{Limits}
use Rattle.execution.specs.Performing.{Result, result}
use Rattle.machine.specs.Step.{step_refusal, stepped}
use Rattle.machine.specs.Run.{after_step, no_steps_left, ran}
use Rattle.machine.specs.Internal.{only_step}
use Rattle.execution.specs.declared.Registers.{Registers}
use Rattle.execution.specs.declared.StepAnswer.{StepAnswer}
use Rattle.execution.specs.declared.StepAnswer.TheVariants.{Made, Finished, Trap, Refused}
use Rattle.execution.specs.declared.Stepped.{Stepped}
use Rattle.machine.specs.declared.Ran.{Ran}
use Rattle.machine.proofs.StepEffect.{kept_step, not_made_finished, not_made_trap, not_made_refused}

-- what a run with no steps left leaves
record Left (regs : Registers) (cells : List ℕ) (r : Ran × List ℕ) : Type 0 where
  steps : r.0.steps ≡ 0
  registers : r.0.registers ≡ regs
  memory : r.1 ≡ cells

abbrev pair : List ℕ → Stepped → Result
pair memory s = (s, memory)

-- what a step's answer makes of a run of one step
tried : (s : Stepped) (after : List ℕ) (regs : Registers) (before : List ℕ) (rest : Ran × List ℕ) → Left s.registers after rest →
    (answer : StepAnswer) → s.answer ≡ answer → ((answer ≡ Made → ⊥) → ◌≡◌ {A = Result} (s, after) (result answer regs before)) →
    ◌≡◌ {A = Result} (s, after) (only_step (after_step answer regs before rest).0, (after_step answer regs before rest).1)
tried s after regs before rest left Made e kept =
    let is : s ≡ record { answer = Made; registers = s.registers } = ap (λ (a : StepAnswer). record { answer = a; registers = s.registers }) e in
    rw (left.steps, left.registers, left.memory) (ap (pair after) is)
tried s after regs before rest left Finished e kept = kept not_made_finished
tried s after regs before rest left (Trap n) e kept = kept (not_made_trap n)
tried s after regs before rest left (Refused n) e kept = kept (not_made_refused n)

module _ (image : List ℕ) (limits : Limits) where
  none_left : (regs : Registers) (memory : List ℕ) → Left regs memory (ran 0 image limits regs memory)
  unfolding ran no_steps_left
  none_left regs memory =
      by_test (Left regs memory) (eqb (step_refusal image limits memory) 0)
      (λ t. record { steps = refl; registers = refl; memory = refl })
      (λ t. record { steps = refl; registers = refl; memory = refl })

  run_of_one : (regs : Registers) (memory : List ℕ) →
      let s = stepped image limits regs memory in
      ran 1 image limits regs memory ≡ after_step s.0.answer regs memory (ran 0 image limits s.0.registers s.1)
  unfolding ran
  run_of_one regs memory = refl

  one_step : (regs : Registers) (memory : List ℕ) →
      stepped image limits regs memory ≡ (only_step (ran 1 image limits regs memory).0, (ran 1 image limits regs memory).1)
  one_step regs memory =
      let s = stepped image limits regs memory in
      rw (run_of_one regs memory)
      (tried s.0 s.1 regs memory (ran 0 image limits s.0.registers s.1) (none_left s.0.registers s.1) s.0.answer refl
      (kept_step image limits regs memory))

  pub step_by_run : (regs : Registers) (memory memory' : List ℕ) (r : Ran) (s : Stepped) →
      ran 1 image limits regs memory ≡ (r, memory') → s ≡ only_step r → stepped image limits regs memory ≡ (s, memory')
  step_by_run regs memory memory' r s e is = one_step regs memory ∙ rw (e, is)
