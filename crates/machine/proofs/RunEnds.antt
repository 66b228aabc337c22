-- What a run's answer means. Spent: the steps made are the budget, and PC is not 0. Finished: PC is 0.
use Prim.Native.Nat.{ℕ, zero, suc}
use mathlib.Core.Path.{◌≡◌, refl, ap, ◌∙◌}
use mathlib.Core.List.{List}
use native.Mathlib.Numerals.{add-one}
use lib.Dec.{eqb}
use borrow.Author.Tests.{eqb-true, eqb-false}
use Rattle.numbers.proofs.Checking.{by_test}
use Rattle.image.specs.declared.Limits.{Limits}
use Rattle.machine.specs.Step.{step_refusal, stepped}
use Rattle.machine.specs.Run.{ended, more_steps, after_step, no_steps_left, ran, Says, Told}
use Rattle.execution.specs.declared.Registers.{Registers}
use Rattle.execution.specs.declared.StepAnswer.{StepAnswer}
use Rattle.execution.specs.declared.StepAnswer.TheVariants as Step
use Rattle.machine.specs.declared.RunAnswer.{RunAnswer}
use Rattle.machine.specs.declared.RunAnswer.TheVariants.{Finished, Spent, Trap, Refused}
use Rattle.machine.specs.declared.Ran.{Ran}
use Rattle.machine.proofs.StepEffect.{finished_step}

-- one step more
more : (budget : ℕ) (r : Ran × List ℕ) (answer : RunAnswer) → Says budget r.0 answer → Says (suc budget) (more_steps 1 r).0 answer
more budget r Finished h = h
more budget r Spent h = (add-one r.0.steps ∙ ap suc h.0, h.1)
more budget r (Trap number) h = tt
more budget r (Refused number) h = tt

module _ (image : List ℕ) (limits : Limits) where
  after_step_lem : (budget : ℕ) (regs : Registers) (memory : List ℕ) (answer : StepAnswer) → (answer ≡ Step.Finished → regs.pc ≡ 0) →
      (rest : Ran × List ℕ) → Told budget rest → Told (suc budget) (after_step answer regs memory rest)
  after_step_lem budget regs memory Step.Made zero-pc rest h = more budget rest rest.0.answer h
  after_step_lem budget regs memory Step.Finished zero-pc rest h = zero-pc refl
  after_step_lem budget regs memory (Step.Trap number) zero-pc rest h = tt
  after_step_lem budget regs memory (Step.Refused number) zero-pc rest h = tt

  pub run_tells : (budget : ℕ) (regs : Registers) (memory : List ℕ) → Told budget (ran budget image limits regs memory)
  unfolding ran no_steps_left
  run_tells zero regs memory =
      by_test (Told 0) (eqb (step_refusal image limits memory) 0)
      (λ t. by_test (λ (o : RunAnswer). Told 0 (ended o regs memory)) (eqb regs.pc 0)
      (λ u. eqb-true _ _ u)
      (λ u. (refl, eqb-false _ _ u)))
      (λ t. tt)
  run_tells (suc budget) regs memory =
      let s = stepped image limits regs memory in
      after_step_lem budget regs memory s.0.answer (finished_step image limits regs memory)
      (ran budget image limits s.0.registers s.1) (run_tells budget s.0.registers s.1)
