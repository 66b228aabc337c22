-- A run in two parts is one run: where the first is spent, a run from there makes the rest of its steps.
use Prim.Native.Nat.{ℕ, zero, suc, ◌+◌}
use mathlib.Core.Path.{◌≡◌, refl, sym, ap, ◌∙◌}
use mathlib.Core.Bool.{Bool, true, false, cond}
use mathlib.Core.List.{List}
use native.Mathlib.Nat.{zero-add, suc-add}
use native.Mathlib.Omega.{arith}
use lib.Dec.{eqb}
use borrow.Author.Tests.{eqb-true, eqb-false}
use Rattle.image.specs.declared.Limits.{Limits}
use Rattle.machine.specs.Step.{step_refusal, stepped}
use Rattle.machine.specs.Run.{ended, more_steps, after_step, no_steps_left, ran, in_parts}
use Rattle.execution.specs.declared.Registers.{Registers}
use Rattle.execution.specs.declared.StepAnswer.{StepAnswer}
use Rattle.execution.specs.declared.StepAnswer.TheVariants as Step
use Rattle.machine.specs.declared.RunAnswer.{RunAnswer}
use Rattle.machine.specs.declared.RunAnswer.TheVariants.{Finished, Spent, Trap, Refused}
use Rattle.machine.specs.declared.Ran.{Ran}
use Rattle.machine.proofs.RunLaws.{after_none, after_both, refused_at_once, finished_at_once}

-- a step before the first part
one_before : (answer : RunAnswer) (first second : Ran × List ℕ) → more_steps 1 (in_parts answer first second) ≡ in_parts answer (more_steps 1 first) second
one_before Finished first second = refl
one_before Spent first second = after_both 1 first.0.steps (first.0.steps + 1) second (omega arith)
one_before (Trap number) first second = refl
one_before (Refused number) first second = refl

module _ (image : List ℕ) (limits : Limits) (b : ℕ) where
  -- a run, and b steps more from where it came to
  abbrev With : Ran × List ℕ → Ran × List ℕ
  With first = in_parts first.0.answer first (ran b image limits first.0.registers first.1)

  out_by : (regs : Registers) (memory : List ℕ) (valid at_zero : Bool) → eqb (step_refusal image limits memory) 0 ≡ valid → eqb regs.pc 0 ≡ at_zero →
      ran b image limits regs memory ≡
      With (cond valid (ended (cond at_zero Finished Spent) regs memory) (ended (Refused (step_refusal image limits memory)) regs memory))
  out_by regs memory true true valid at_zero = finished_at_once b image limits regs memory (eqb-true _ _ valid) (eqb-true _ _ at_zero)
  out_by regs memory true false valid on = sym (after_none (ran b image limits regs memory))
  out_by regs memory false at_zero refused other =
      refused_at_once b image limits regs memory (step_refusal image limits memory) (refl, eqb-false _ _ refused)

  out_then : (regs : Registers) (memory : List ℕ) → ran b image limits regs memory ≡ With (no_steps_left image limits regs memory)
  unfolding no_steps_left
  out_then regs memory = out_by regs memory (eqb (step_refusal image limits memory) 0) (eqb regs.pc 0) refl refl

  step_then : (regs : Registers) (memory : List ℕ) (answer : StepAnswer) (first whole : Ran × List ℕ) → whole ≡ With first →
      after_step answer regs memory whole ≡ With (after_step answer regs memory first)
  step_then regs memory Step.Made first whole e = ap (more_steps 1) e ∙ one_before first.0.answer first _
  step_then regs memory Step.Finished first whole e = refl
  step_then regs memory (Step.Trap number) first whole e = refl
  step_then regs memory (Step.Refused number) first whole e = refl

  pub run_in_parts : (a : ℕ) (regs : Registers) (memory : List ℕ) →
      let first = ran a image limits regs memory in
      ran (a + b) image limits regs memory ≡ in_parts first.0.answer first (ran b image limits first.0.registers first.1)
  unfolding ran
  run_in_parts zero regs memory = rw (zero-add b) (out_then regs memory)
  run_in_parts (suc a) regs memory =
      let s = stepped image limits regs memory in
      rw (suc-add a b)
      (step_then regs memory s.0.answer (ran a image limits s.0.registers s.1) (ran (a + b) image limits s.0.registers s.1)
      (run_in_parts a s.0.registers s.1))
