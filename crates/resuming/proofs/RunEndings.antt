-- A run makes no more steps than its budget. One that has not trapped is finished at PC 0, else spent; and the answer that it gives where it goes on
-- from a state.
use Prim.Native.Nat.{ℕ, zero, suc, ◌+◌, ◌≤◌}
use mathlib.Core.Path.{◌≡◌, ap}
use mathlib.Core.Logic.{inl, inr}
use mathlib.Core.List.{List}
use native.Mathlib.Omega.{arith}
use lib.Dec.{eqb}
use borrow.Author.Tests.{eq-eqb, ne_eqb}
use Rattle.numbers.proofs.Checking.{by_test}
use Rattle.image.specs.declared.Limits.{Limits}
use Rattle.execution.specs.declared.Registers.{Registers}
use Rattle.execution.specs.declared.StepAnswer.{StepAnswer}
use Rattle.execution.specs.declared.StepAnswer.TheVariants as Step
use Rattle.machine.specs.Step.{step_refusal, stepped}
use Rattle.machine.specs.Run.{Says, after_step, no_steps_left, ran}
use Rattle.machine.specs.declared.Ran.{Ran}
use Rattle.machine.specs.declared.RunAnswer.{RunAnswer}
use Rattle.machine.proofs.RunEnds.{run_tells}
use Rattle.machine.specs.Cycles.{run_cycles}
use Rattle.saved_state.specs.declared.SavedState.{SavedState}
use Rattle.resuming.specs.declared.ResumeAnswer.{ResumeAnswer}
use Rattle.resuming.specs.declared.Resumed.{Resumed}
use Rattle.resuming.specs.Resuming.{ceiling, allowance, ran_on, Ends, finished, spent}
use Rattle.resuming.specs.Internal.{Untrapped, ending_at}

after_most : (budget : ℕ) (regs : Registers) (memory : List ℕ) (answer : StepAnswer) (rest : Ran × List ℕ) → rest.0.steps ≤ budget →
    (after_step answer regs memory rest).0.steps ≤ suc budget
after_most budget regs memory Step.Made rest h = omega arith
after_most budget regs memory Step.Finished rest h = omega arith
after_most budget regs memory (Step.Trap n) rest h = omega arith
after_most budget regs memory (Step.Refused n) rest h = omega arith

pub steps_most : (budget : ℕ) (image : List ℕ) (limits : Limits) (regs : Registers) (memory : List ℕ) → (ran budget image limits regs memory).0.steps ≤ budget
unfolding ran no_steps_left
steps_most zero image limits regs memory =
    by_test (λ (r : Ran × List ℕ). r.0.steps ≤ 0) (eqb (step_refusal image limits memory) 0) (λ t. omega arith) (λ t. omega arith)
steps_most (suc budget) image limits regs memory =
    let s = stepped image limits regs memory in
    after_most budget regs memory s.0.answer (ran budget image limits s.0.registers s.1) (steps_most budget image limits s.0.registers s.1)

-- so no total passes the ceiling
pub total_most : (image : List ℕ) (limits : Limits) (memory : List ℕ) (state : SavedState) (budget : ℕ) → state.steps ≤ ceiling →
    state.steps + (ran (allowance budget state) image limits state.registers memory).0.steps ≤ ceiling
unfolding allowance
total_most image limits memory state budget few = omega (arith, steps_most (allowance budget state) image limits state.registers memory)

by_answer : (budget : ℕ) (r : Ran) (answer : RunAnswer) → Says budget r answer → Untrapped answer → Ends answer (ending_at r.registers)
by_answer budget r answer says (inl e) = let at_zero = rw e at says in rw (e, eq-eqb r.registers.pc 0 at_zero) finished
by_answer budget r answer says (inr e) = let on = rw e at says in rw (e, ne_eqb r.registers.pc 0 on.1) spent

pub run_ends : (budget : ℕ) (image : List ℕ) (limits : Limits) (regs : Registers) (memory : List ℕ) →
    let r = ran budget image limits regs memory in
    Untrapped r.0.answer → Ends r.0.answer (ending_at r.0.registers)
run_ends budget image limits regs memory u =
    let r = ran budget image limits regs memory in
    by_answer budget r.0 r.0.answer (run_tells image limits budget regs memory) u

pub ran_on_lem : (image : List ℕ) (limits : Limits) (memory : List ℕ) (state : SavedState) (budget : ℕ) {n : ℕ} {r : Ran} {after : List ℕ} {cycles : ℕ} {answer : ResumeAnswer} →
    n ≡ allowance budget state → ran n image limits state.registers memory ≡ (r, after) →
    cycles ≡ run_cycles n image limits state.registers memory →
    Untrapped (ran (allowance budget state) image limits state.registers memory).0.answer → answer ≡ ending_at r.registers →
    let resumed : Resumed = record { answer = answer; registers = r.registers; steps = state.steps + r.steps; cycles = cycles } in
    Ends (ran (allowance budget state) image limits state.registers memory).0.answer answer ×
    ((resumed, after) ≡ ran_on image limits memory state budget answer)
ran_on_lem image limits memory state budget is ran-is cycles-are u answer-is =
    let whole = rw is at ran-is in
    let ends = run_ends (allowance budget state) image limits state.registers memory u in
    (rw (answer-is, ← ap (λ (x : Ran × List ℕ). x.0.registers) whole) ends, rw (whole, cycles-are, is))
