-- A run, one step at a time: what its loop has still to do, with the steps already made.
use Prim.Native.Nat.{ℕ, zero, suc, ◌+◌}
use mathlib.Core.Path.{◌≡◌, refl, sym, ap, ◌∙◌, subst}
use mathlib.Core.Bool.{cond}
use mathlib.Core.List.{List}
use native.Mathlib.Numerals.{add-one}
use native.Mathlib.Nat.{zero-add, add-zero}
use native.Mathlib.Omega.{arith}
use lib.Dec.{eqb}
use borrow.Author.Tests.{eq-eqb, ne_eqb}
use Rattle.image.specs.declared.Limits.{Limits}
use Rattle.execution.specs.Performing.{Result, result}
use Rattle.machine.specs.Step.{step_valid, step_refusal}
use Rattle.machine.specs.Run.{no_steps_left, more_steps, after_step, ran}
use Rattle.execution.specs.declared.Registers.{Registers}
use Rattle.execution.specs.declared.StepAnswer.TheVariants as Step
use Rattle.execution.specs.declared.Stepped.{Stepped}
use Rattle.machine.specs.declared.RunAnswer.{RunAnswer}
use Rattle.machine.specs.declared.RunAnswer.TheVariants.{Finished, Spent, Trap, Refused}
use Rattle.machine.specs.declared.Ran.{Ran}
use Rattle.machine.proofs.StepLaws.{step_refused, step_valid_lem, finished}
use Rattle.machine.proofs.StepEffect.{kept_step, not_made_finished, not_made_trap, not_made_refused}

abbrev pub stopped : RunAnswer → Registers → ℕ → List ℕ → Ran × List ℕ
stopped answer regs k memory = (record { answer = answer; registers = regs; steps = k }, memory)

pub after_none : (r : Ran × List ℕ) → more_steps 0 r ≡ r
after_none r = ap (λ n. stopped r.0.answer r.0.registers n r.1) (add-zero r.0.steps)

pub after_both : (j k n : ℕ) (r : Ran × List ℕ) → n ≡ j + k → more_steps j (more_steps k r) ≡ more_steps n r
after_both j k n r sum =
    let e : r.0.steps + k + j ≡ r.0.steps + n = omega arith in
    ap (λ n. stopped r.0.answer r.0.registers n r.1) e

-- a run that is refused makes no step
pub refused_at_once : (budget : ℕ) (image : List ℕ) (limits : Limits) (regs : Registers) (memory : List ℕ) (number : ℕ) →
    (step_refusal image limits memory ≡ number) × (number ≡ 0 → ⊥) →
    ran budget image limits regs memory ≡ stopped (Refused number) regs 0 memory
unfolding ran no_steps_left
refused_at_once zero image limits regs memory number h = rw (h.0, ne_eqb number 0 h.1)
refused_at_once (suc budget) image limits regs memory number h = rw (step_refused image limits regs memory number h.0 h.1)

-- nor does one that begins at PC 0
pub finished_at_once : (budget : ℕ) (image : List ℕ) (limits : Limits) (regs : Registers) (memory : List ℕ) →
    step_refusal image limits memory ≡ 0 → regs.pc ≡ 0 → ran budget image limits regs memory ≡ stopped Finished regs 0 memory
unfolding ran no_steps_left
finished_at_once zero image limits regs memory valid at_zero = rw (valid, eq-eqb _ _ at_zero)
finished_at_once (suc budget) image limits regs memory valid at_zero =
    rw (step_valid_lem image limits regs memory valid, finished image limits regs memory (eq-eqb _ _ at_zero))

module _ (image : List ℕ) (limits : Limits) (k : ℕ) (regs : Registers) (memory : List ℕ) (valid : step_refusal image limits memory ≡ 0) where
  -- no steps are left
  run_out : (left : ℕ) → left ≡ 0 →
      more_steps k (ran left image limits regs memory) ≡ stopped (cond (eqb regs.pc 0) Finished Spent) regs k memory
  unfolding ran no_steps_left
  run_out left none = rw (none, valid, zero-add)

  pub out_finished : (left : ℕ) → left ≡ 0 → regs.pc ≡ 0 → more_steps k (ran left image limits regs memory) ≡ stopped Finished regs k memory
  out_finished left none at_zero = run_out left none ∙ rw (eq-eqb _ _ at_zero)

  pub out_spent : (left : ℕ) → left ≡ 0 → (regs.pc ≡ 0 → ⊥) → more_steps k (ran left image limits regs memory) ≡ stopped Spent regs k memory
  out_spent left none on = run_out left none ∙ rw (ne_eqb _ _ on)

  -- a step is left
  module _ (left rest : ℕ) (one : left ≡ rest + 1) (s : Stepped) (memory' : List ℕ) (is : step_valid image limits regs memory ≡ (s, memory')) where
    one_step : ran left image limits regs memory ≡ after_step s.answer regs memory (ran rest image limits s.registers memory')
    unfolding ran
    one_step = rw (one, add-one, step_valid_lem image limits regs memory valid, is)

    pub run_on : s.answer ≡ Step.Made →
        more_steps k (ran left image limits regs memory) ≡ more_steps (k + 1) (ran rest image limits s.registers memory')
    run_on made = ap (more_steps k) one_step ∙ rw made (after_both k 1 (k + 1) (ran rest image limits s.registers memory') refl)

    unmade : (s.answer ≡ Step.Made → ⊥) → ◌≡◌ {A = Result} (s, memory') (result s.answer regs memory)
    unmade other =
        subst (λ (r : Result). (r.0.answer ≡ Step.Made → ⊥) → r ≡ result r.0.answer regs memory)
        (step_valid_lem image limits regs memory valid ∙ is)
        (kept_step image limits regs memory)
        other

    -- it is not made, so the run stops there
    stops : (answer : RunAnswer) → (s.answer ≡ Step.Made → ⊥) →
        after_step s.answer regs memory (ran rest image limits s.registers memory') ≡ stopped answer regs 0 memory →
        more_steps k (ran left image limits regs memory) ≡ stopped answer s.registers k memory'
    stops answer other e =
        let registers : s.registers ≡ regs = ap (λ r. r.0.registers) (unmade other) in
        let same : memory' ≡ memory = ap (λ r. r.1) (unmade other) in
        ap (more_steps k) (one_step ∙ e) ∙ rw (registers, same, zero-add)

    pub run_finished : s.answer ≡ Step.Finished → more_steps k (ran left image limits regs memory) ≡ stopped Finished s.registers k memory'
    run_finished e = stops Finished (λ m. not_made_finished (sym e ∙ m)) (rw e)

    pub run_trapped : (n : ℕ) → s.answer ≡ Step.Trap n → more_steps k (ran left image limits regs memory) ≡ stopped (Trap n) s.registers k memory'
    run_trapped n e = stops (Trap n) (λ m. not_made_trap n (sym e ∙ m)) (rw e)

    pub run_refused : (n : ℕ) → s.answer ≡ Step.Refused n →
        more_steps k (ran left image limits regs memory) ≡ stopped (Refused n) s.registers k memory'
    run_refused n e = stops (Refused n) (λ m. not_made_refused n (sym e ∙ m)) (rw e)

-- what a loop that has stopped leaves is what the run is
pub ends :
    (rest whole : Ran × List ℕ) {answer answer' : RunAnswer} {regs regs' : Registers} {k : ℕ} {memory memory' : List ℕ} →
    rest ≡ whole → rest ≡ stopped answer regs k memory → answer' ≡ answer → regs' ≡ regs → memory' ≡ memory →
    whole ≡ stopped answer' regs' k memory'
ends rest whole p q a b d = rw (a, b, d) (sym p ∙ q)
