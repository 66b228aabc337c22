-- `machine::running::run_valid` meets its contract.
use Prim.Native.Nat.{◌+◌, ◌-◌}
use mathlib.Core.Path.{◌≡◌, refl, sym, ap, ◌∙◌}
use native.Mathlib.Omega.{arith}
use Rattle.machine.specs.Step.{step_refusal}
use Rattle.machine.specs.Cycles.{cycles_at, run_cycles}
use Rattle.machine.specs.declared.RunAnswer.TheVariants.{Finished, Spent}
use Rattle.machine.proofs.StepLaws.{same_refusal}
use Rattle.machine.proofs.RunLaws.{stopped, out_finished, out_spent, run_on, run_finished, run_trapped, run_refused, ends}
use Rattle.machine.proofs.CycleLaws.{at_most, none_left, cycles_on, cycles_finished, cycles_trapped, cycles_refused}
use Rattle.machine.proofs.running.run_valid.Goals as goal
use Rattle.machine.proofs.running.run_valid.Goals.{in-Finished, in-Trap, in-Refused}

pub overflow_add-cycles : goal.overflow_add-cycles
overflow_add-cycles c =
    let made : c.step_valid-timed.result.cycles ≡ cycles_at c.args.image.now c.loop-steps.registers c.loop-steps.memory = c.step_valid-timed.ensures.cost ∙ rw c.in-Made.is in
    omega (arith, made, at_most c.args.image.now c.loop-steps.registers c.loop-steps.memory, c.loop-steps.invariant.few, c.loop-steps-test.true, c.ranges.budget.fits)

pub loop-steps-preserved : goal.loop-steps-preserved
loop-steps-preserved c =
    let left = c.args.budget - c.loop-steps.steps in
    let rest = c.args.budget - (c.loop-steps.steps + 1) in
    let valid = same_refusal c.args.image.now c.args.limits c.args.memory.now c.loop-steps.memory c.loop-steps.invariant.size ∙ c.requires.passes in
    let one : left ≡ rest + 1 = omega (arith, c.loop-steps-test.true) in
    let count : c.step_valid-timed.result.cycles ≡ cycles_at c.args.image.now c.loop-steps.registers c.loop-steps.memory = c.step_valid-timed.ensures.cost ∙ rw c.in-Made.is in
    let on = cycles_on c.args.image.now c.args.limits c.loop-steps.registers c.loop-steps.memory valid left rest one c.step_valid-timed.result.stepped _ c.step_valid-timed.ensures.outcome c.in-Made.is in
    record {
      size = c.step_valid-timed.auto.memory ∙ c.loop-steps.invariant.size;
      run = sym
          (run_on c.args.image.now c.args.limits c.loop-steps.steps c.loop-steps.registers c.loop-steps.memory valid left rest one c.step_valid-timed.result.stepped _
          c.step_valid-timed.ensures.outcome c.in-Made.is) ∙
          c.loop-steps.invariant.run;
      counted = omega (arith, count, on, c.loop-steps.invariant.counted);
      few = omega (arith, count, c.loop-steps.invariant.few, at_most c.args.image.now c.loop-steps.registers c.loop-steps.memory);
    }

pub returns-in-loop-steps-clause-outcome : goal.returns-in-loop-steps-clause-outcome
returns-in-loop-steps-clause-outcome c =
    let left = c.args.budget - c.loop-steps.steps in
    let rest = c.args.budget - (c.loop-steps.steps + 1) in
    let valid : step_refusal c.args.image.now c.args.limits c.loop-steps.memory ≡ 0 =
    same_refusal c.args.image.now c.args.limits c.args.memory.now c.loop-steps.memory c.loop-steps.invariant.size ∙ c.requires.passes in
    let one : left ≡ rest + 1 = omega (arith, c.loop-steps-test.true) in
    let s = c.step_valid-timed in
    elim c.match-timed.branch [
      | in-Finished w ↦
          ends _ _ c.loop-steps.invariant.run
          (run_finished c.args.image.now c.args.limits c.loop-steps.steps c.loop-steps.registers c.loop-steps.memory valid left rest one s.result.stepped _ s.ensures.outcome w.in-Finished.is)
          w.answer-is refl refl
      | in-Trap w ↦
          ends _ _ c.loop-steps.invariant.run
          (run_trapped c.args.image.now c.args.limits c.loop-steps.steps c.loop-steps.registers c.loop-steps.memory valid left rest one s.result.stepped _ s.ensures.outcome _ w.in-Trap.is)
          w.answer-is refl refl
      | in-Refused w ↦
          ends _ _ c.loop-steps.invariant.run
          (run_refused c.args.image.now c.args.limits c.loop-steps.steps c.loop-steps.registers c.loop-steps.memory valid left rest one s.result.stepped _ s.ensures.outcome _ w.in-Refused.is)
          w.answer-is refl refl
    ]

pub returns-in-loop-steps-clause-cost : goal.returns-in-loop-steps-clause-cost
returns-in-loop-steps-clause-cost c =
    let left = c.args.budget - c.loop-steps.steps in
    let rest = c.args.budget - (c.loop-steps.steps + 1) in
    let valid : step_refusal c.args.image.now c.args.limits c.loop-steps.memory ≡ 0 =
    same_refusal c.args.image.now c.args.limits c.args.memory.now c.loop-steps.memory c.loop-steps.invariant.size ∙ c.requires.passes in
    let one : left ≡ rest + 1 = omega (arith, c.loop-steps-test.true) in
    let s = c.step_valid-timed in
    -- what is counted so far is the whole where no cycles are left
    let all : run_cycles left c.args.image.now c.args.limits c.loop-steps.registers c.loop-steps.memory ≡ 0 →
    c.loop-steps.cycles ≡ run_cycles c.args.budget c.args.image.now c.args.limits c.args.given c.args.memory.now =
    λ none. omega (arith, none, c.loop-steps.invariant.counted) in
    elim c.match-timed.branch [
      | in-Finished w ↦ all (cycles_finished c.args.image.now c.args.limits c.loop-steps.registers c.loop-steps.memory valid left rest one s.result.stepped _ s.ensures.outcome w.in-Finished.is)
      | in-Trap w ↦ all (cycles_trapped c.args.image.now c.args.limits c.loop-steps.registers c.loop-steps.memory valid left rest one s.result.stepped _ s.ensures.outcome _ w.in-Trap.is)
      | in-Refused w ↦ all (cycles_refused c.args.image.now c.args.limits c.loop-steps.registers c.loop-steps.memory valid left rest one s.result.stepped _ s.ensures.outcome _ w.in-Refused.is)
    ]

pub returns-then-registers-eq0 : goal.returns-then-registers-eq0
returns-then-registers-eq0 c =
    let left = c.args.budget - c.loop-steps.steps in
    let none : left ≡ 0 = omega (arith, c.loop-steps-test.false) in
    let all : c.loop-steps.steps ≡ c.args.budget = omega (arith, c.loop-steps.auto.steps-end, c.loop-steps-test.false) in
    let valid : step_refusal c.args.image.now c.args.limits c.loop-steps.memory ≡ 0 =
    same_refusal c.args.image.now c.args.limits c.args.memory.now c.loop-steps.memory c.loop-steps.invariant.size ∙ c.requires.passes in record {
      outcome = ends _ _ c.loop-steps.invariant.run
          (out_finished c.args.image.now c.args.limits c.loop-steps.steps c.loop-steps.registers c.loop-steps.memory valid left none c.if-registers-eq0.true) refl refl refl ∙
          ap (λ k. stopped Finished c.loop-steps.registers k c.loop-steps.memory) all;
      cost = omega (arith, none_left c.args.image.now c.args.limits c.loop-steps.registers c.loop-steps.memory left none, c.loop-steps.invariant.counted);
    }

pub returns-else-registers-eq0 : goal.returns-else-registers-eq0
returns-else-registers-eq0 c =
    let left = c.args.budget - c.loop-steps.steps in
    let none : left ≡ 0 = omega (arith, c.loop-steps-test.false) in
    let all : c.loop-steps.steps ≡ c.args.budget = omega (arith, c.loop-steps.auto.steps-end, c.loop-steps-test.false) in
    let valid : step_refusal c.args.image.now c.args.limits c.loop-steps.memory ≡ 0 =
    same_refusal c.args.image.now c.args.limits c.args.memory.now c.loop-steps.memory c.loop-steps.invariant.size ∙ c.requires.passes in record {
      outcome = ends _ _ c.loop-steps.invariant.run
          (out_spent c.args.image.now c.args.limits c.loop-steps.steps c.loop-steps.registers c.loop-steps.memory valid left none c.if-registers-eq0.false) refl refl refl ∙
          ap (λ k. stopped Spent c.loop-steps.registers k c.loop-steps.memory) all;
      cost = omega (arith, none_left c.args.image.now c.args.limits c.loop-steps.registers c.loop-steps.memory left none, c.loop-steps.invariant.counted);
    }
