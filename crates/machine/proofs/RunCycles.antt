-- The cycles of a run: one figure for each step made, at most four each, so that 64 bits hold their sum; and a run in two parts adds up.
use Prim.Native.Nat.{ℕ, zero, suc, ◌+◌, ◌*◌, ◌≤◌, ◌<◌}
use mathlib.Core.Path.{◌≡◌, refl, sym, ap, ◌∙◌}
use mathlib.Core.List.{List}
use native.Mathlib.Nat.{zero-add}
use native.Mathlib.Omega.{arith}
use lib.Dec.{eqb}
use lib.ListN.{length}
use Rattle.numbers.proofs.Checking.{by_test}
use Rattle.image.specs.declared.Limits.{Limits}
use Rattle.execution.specs.declared.Registers.{Registers}
use Rattle.execution.specs.declared.StepAnswer.{StepAnswer}
use Rattle.execution.specs.declared.StepAnswer.TheVariants.{Made, Finished, Trap, Refused}
use Rattle.machine.specs.Step.{step_refusal, stepped}
use Rattle.machine.specs.Run.{after_step, no_steps_left, ran}
use Rattle.machine.specs.Cycles.{cycles_at, after_cycles, step_cycles, cycles_made, run_cycles}
use Rattle.machine.specs.declared.Ran.{Ran}
use Rattle.machine.proofs.StepEffect.{not_made_finished, not_made_trap, not_made_refused}
use Rattle.machine.proofs.CycleLaws.{at_most, after, one_more, none_left}

module _ (image : List ℕ) (limits : Limits) where
  -- a run with no steps left makes none, and comes to where it is
  out : (regs : Registers) (memory : List ℕ) → (P : ℕ → Registers → List ℕ → Type 0) → P 0 regs memory →
      P (ran 0 image limits regs memory).0.steps (ran 0 image limits regs memory).0.registers (ran 0 image limits regs memory).1
  unfolding ran no_steps_left
  out regs memory P p =
      by_test (λ (r : Ran × List ℕ). P r.0.steps r.0.registers r.1) (eqb (step_refusal image limits memory) 0) (λ t. p) (λ t. p)

  -- one figure for each step made
  step_counted : (regs : Registers) (memory : List ℕ) (answer : StepAnswer) (cycles : ℕ) (rest : List ℕ) (r : Ran × List ℕ) → length rest ≡ r.0.steps →
      length (after_cycles answer cycles rest) ≡ (after_step answer regs memory r).0.steps
  step_counted regs memory Made cycles rest r e = let n = e in omega (arith, n)
  step_counted regs memory Finished cycles rest r e = refl
  step_counted regs memory (Trap number) cycles rest r e = refl
  step_counted regs memory (Refused number) cycles rest r e = refl

  pub each_counted : (budget : ℕ) (regs : Registers) (memory : List ℕ) →
      length (cycles_made budget image limits regs memory) ≡ (ran budget image limits regs memory).0.steps
  unfolding cycles_made ran
  each_counted zero regs memory = out regs memory (λ n _ _. 0 ≡ n) refl
  each_counted (suc budget) regs memory =
      let s = stepped image limits regs memory in
      step_counted regs memory s.0.answer (step_cycles image limits regs memory) (cycles_made budget image limits s.0.registers s.1)
      (ran budget image limits s.0.registers s.1) (each_counted budget s.0.registers s.1)

  -- four at the most for each step of the budget
  step_most : (answer : StepAnswer) (cycles rest budget : ℕ) → cycles ≤ 4 → rest ≤ 4 * budget → after answer cycles rest ≤ 4 * suc budget
  step_most Made cycles rest budget few most = omega arith
  step_most Finished cycles rest budget few most = omega arith
  step_most (Trap number) cycles rest budget few most = omega arith
  step_most (Refused number) cycles rest budget few most = omega arith

  pub cycles_most : (budget : ℕ) (regs : Registers) (memory : List ℕ) → run_cycles budget image limits regs memory ≤ 4 * budget
  cycles_most zero regs memory = let none = none_left image limits regs memory 0 refl in omega (arith, none)
  cycles_most (suc budget) regs memory =
      let s = stepped image limits regs memory in
      rw (one_more image limits regs memory (suc budget) budget (omega arith) s.0 s.1 refl)
      (step_most s.0.answer (cycles_at image regs memory) _ budget (at_most image regs memory) (cycles_most budget s.0.registers s.1))

  pub cycles_fit : (budget : ℕ) (regs : Registers) (memory : List ℕ) → budget < 0x100000000 → run_cycles budget image limits regs memory < 0x10000000000000000
  cycles_fit budget regs memory small = let most = cycles_most budget regs memory in omega (arith, most, small)

  -- what stopped a run stops it again
  unmade : (answer : StepAnswer) (cycles rest : ℕ) → (answer ≡ Made → ⊥) → after answer cycles rest ≡ 0
  unmade Made cycles rest other = absurd (other refl)
  unmade Finished cycles rest other = refl
  unmade (Trap number) cycles rest other = refl
  unmade (Refused number) cycles rest other = refl

  stops : (budget : ℕ) (regs : Registers) (memory : List ℕ) → ((stepped image limits regs memory).0.answer ≡ Made → ⊥) →
      run_cycles budget image limits regs memory ≡ 0
  stops zero regs memory other = none_left image limits regs memory 0 refl
  stops (suc budget) regs memory other =
      let s = stepped image limits regs memory in
      one_more image limits regs memory (suc budget) budget (omega arith) s.0 s.1 refl ∙ unmade s.0.answer _ _ other

  module _ (b : ℕ) where
    -- the cycles of b steps more from where a run came to
    abbrev More : Ran × List ℕ → ℕ
    More r = run_cycles b image limits r.0.registers r.1

    step_parts : (regs : Registers) (memory : List ℕ) (answer : StepAnswer) → ((answer ≡ Made → ⊥) → run_cycles b image limits regs memory ≡ 0) →
        (cycles whole first : ℕ) (r : Ran × List ℕ) → whole ≡ first + More r →
        after answer cycles whole ≡ after answer cycles first + More (after_step answer regs memory r)
    step_parts regs memory Made none cycles whole first r e = let sum = e in omega (arith, sum)
    step_parts regs memory Finished none cycles whole first r e = sym (zero-add _ ∙ none not_made_finished)
    step_parts regs memory (Trap n) none cycles whole first r e = sym (zero-add _ ∙ none (not_made_trap n))
    step_parts regs memory (Refused n) none cycles whole first r e = sym (zero-add _ ∙ none (not_made_refused n))

    pub cycles_in_parts : (a : ℕ) (regs : Registers) (memory : List ℕ) →
        let first = ran a image limits regs memory in
        run_cycles (a + b) image limits regs memory ≡
        run_cycles a image limits regs memory + run_cycles b image limits first.0.registers first.1
    unfolding ran
    cycles_in_parts zero regs memory =
        rw (zero-add b, none_left image limits regs memory 0 refl, zero-add (More (ran 0 image limits regs memory)))
        (out regs memory (λ _ regs' memory'. run_cycles b image limits regs memory ≡ run_cycles b image limits regs' memory') refl)
    cycles_in_parts (suc a) regs memory =
        let s = stepped image limits regs memory in
        let rest = ran a image limits s.0.registers s.1 in
        one_more image limits regs memory (suc a + b) (a + b) (omega arith) s.0 s.1 refl ∙
        step_parts regs memory s.0.answer (stops b regs memory) (cycles_at image regs memory) _ _ rest (cycles_in_parts a s.0.registers s.1) ∙
        ap (λ k. k + More (after_step s.0.answer regs memory rest))
        (sym (one_more image limits regs memory (suc a) a (omega arith) s.0 s.1 refl))
