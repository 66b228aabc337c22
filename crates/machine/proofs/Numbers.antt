-- Document 01's numbers: a refused step or run has its refusal's, another 0, 64 or 65 by its answer, or a trap's, 21 to 25.
use Prim.Native.Nat.{ℕ, zero, suc, ◌+◌, ◌-◌, ◌≤◌}
use mathlib.Core.Path.{◌≡◌, refl, ◌∙◌, subst}
use mathlib.Core.Bool.{Bool, true, false}
use mathlib.Core.List.{List}
use native.Mathlib.Omega.{arith}
use lib.Dec.{eqb, ltb}
use lib.ListN.{length}
use borrow.Author.Tests.{eqb-true, eqb-false}
use Rattle.std.specs.Prelude.{Ok, Err}
use Rattle.numbers.specs.Checks.{first}
use Rattle.numbers.specs.Folds.{first_in}
use Rattle.numbers.proofs.Checking.{by_test}
use Rattle.numbers.proofs.Numbering.{Numbered, pass, fails, not_zero, tested, ◌then◌, under_numbered, unless_numbered, differ_numbered}
use Rattle.stm8.specs.Decoding.{Decoded}
use Rattle.stm8.specs.declared.DecodeError.TheVariants.{Outside, Truncated}
use Rattle.stm8.specs.Effects.{bytes_wide, effect, is_call}
use Rattle.stm8.specs.declared.Place.{Place}
use Rattle.stm8.specs.declared.Place.TheVariants.{Nowhere, Direct, OnStack, Pushed}
use Rattle.stm8.specs.declared.Effect.{Effect}
use Rattle.image.specs.declared.Limits.{Limits}
use Rattle.image.specs.Access.{granted}
use Rattle.image.specs.Image.{base_of}
use Rattle.image.proofs.RefusalNumbers.{validation_number_lem}
use Rattle.code.specs.Code.{instruction_in}
use Rattle.storage.specs.Storing.{sp_trap, move_trap, store_trap, call_trap}
use Rattle.execution.specs.Performing.{Result, effect_trap, made, performed}
use Rattle.machine.specs.Step.{pc_trap, decoded_step, step_valid}
use Rattle.machine.specs.Step.{step_refusal, stepped, StepNumbered}
use Rattle.machine.specs.Run.{after_step, no_steps_left, ran, RunNumbered}
use Rattle.execution.specs.declared.Registers.{Registers}
use Rattle.execution.specs.declared.StepAnswer.{StepAnswer}
use Rattle.execution.specs.declared.StepAnswer.TheVariants.{Made, Finished, Trap, Refused}
use Rattle.execution.specs.declared.Stepped.{Stepped}
use Rattle.machine.specs.declared.RunAnswer.{RunAnswer}
use Rattle.machine.specs.declared.RunAnswer.TheVariants as Run
use Rattle.machine.specs.declared.Ran.{Ran}
use Rattle.machine.proofs.StepLaws.{step_refused, step_valid_lem, same_refusal}
use Rattle.machine.proofs.StepEffect.{made_step}
use Rattle.machine.proofs.RunLaws.{refused_at_once}

-- the traps
sp_numbered : (limits : Limits) (sp : ℕ) → Numbered 21 25 (sp_trap limits sp)
unfolding sp_trap
sp_numbered limits sp = under_numbered 21 refl _ _ then under_numbered 21 refl _ _

pc_numbered : (image : List ℕ) (pc : ℕ) → Numbered 21 25 (pc_trap image pc)
unfolding pc_trap
pc_numbered image pc = under_numbered 22 refl _ _ then under_numbered 22 refl _ _

move_numbered : (limits : Limits) (sp : ℕ) (e : Effect) → Numbered 21 25 (move_trap limits sp e)
unfolding move_trap
move_numbered limits sp e = under_numbered 24 refl _ _ then under_numbered 24 refl _ _

store_numbered : (limits : Limits) (sp : ℕ) (place : Place) → Numbered 21 25 (store_trap limits sp place)
unfolding store_trap
store_numbered limits sp Nowhere = pass
store_numbered limits sp (Direct a w) = unless_numbered 25 refl (granted limits a (bytes_wide w))
store_numbered limits sp (OnStack f w) = under_numbered 25 refl _ _ then under_numbered 25 refl _ _
store_numbered limits sp (Pushed w) = pass

effect_numbered : (limits : Limits) (sp next : ℕ) (e : Effect) → Numbered 21 25 (effect_trap limits sp next e)
unfolding effect_trap call_trap first_in
effect_numbered limits sp next e =
    move_numbered limits sp e then store_numbered limits sp e.place then
    tested (is_call e.flow) (unless_numbered 22 refl (ltb next 0x10000)) pass then pass

-- the refusals
widened : {number : ℕ} → Numbered 1 4 number → Numbered 1 17 number
widened pass = pass
widened (fails above below) = fails above (omega arith)

at_most : {low high number : ℕ} → Numbered low high number → number ≤ high
at_most pass = omega arith
at_most (fails above below) = below

refusal_small : (image : List ℕ) (limits : Limits) (memory : List ℕ) → step_refusal image limits memory ≤ 17
unfolding step_refusal
refusal_small image limits memory = at_most (differ_numbered 17 refl (length memory) 32768 then widened (validation_number_lem image limits))

-- a step that is not refused is made or finished, or traps
abbrev StepUnrefused : StepAnswer → Type 0
StepUnrefused Made = Unit {0}
StepUnrefused Finished = Unit {0}
StepUnrefused (Trap number) = (21 ≤ number) × (number ≤ 25)
StepUnrefused (Refused number) = ⊥

step_numbered : (refused : ℕ) → refused ≡ 0 → (answer : StepAnswer) → StepUnrefused answer → StepNumbered refused answer
step_numbered refused valid Made h =
    record {
      refusal = λ some. absurd (some valid);
      made = λ e. refl;
      finished = λ e. let z : ⊥ = omega (arith, e) in absurd z;
      trap = λ e some other. absurd (some refl);
    }
step_numbered refused valid Finished h =
    record {
      refusal = λ some. absurd (some valid);
      made = λ e. let z : ⊥ = omega (arith, e) in absurd z;
      finished = λ e. refl;
      trap = λ e some other. absurd (other refl);
    }
step_numbered refused valid (Trap number) h =
    record {
      refusal = λ some. absurd (some valid);
      made = λ e. let z : ⊥ = omega (arith, h.0) in absurd z;
      finished = λ e. let z : ⊥ = omega (arith, h.1) in absurd z;
      trap = λ e some other. h;
    }
step_numbered refused valid (Refused number) h = absurd h

module _ (image : List ℕ) (limits : Limits) (regs : Registers) (memory : List ℕ) where
  abbrev Unrefused : Result → Type 0
  Unrefused r = StepUnrefused r.0.answer

  decoded_unrefused : (d : Decoded) → Unrefused (decoded_step image limits regs memory d)
  unfolding decoded_step performed made
  decoded_unrefused (Err Outside) = (omega arith, omega arith)
  decoded_unrefused (Err Truncated) = (omega arith, omega arith)
  decoded_unrefused (Ok (i, n)) =
      by_test Unrefused (eqb (effect_trap limits regs.sp (regs.pc + n) (effect i)) 0)
      (λ t. tt)
      (λ t. not_zero (effect_numbered limits regs.sp (regs.pc + n) (effect i)) (eqb-false _ _ t))

  valid_unrefused : Unrefused (step_valid image limits regs memory)
  unfolding step_valid
  valid_unrefused =
      by_test Unrefused (eqb regs.pc 0)
      (λ t. tt)
      (λ t. by_test Unrefused (eqb (first (sp_trap limits regs.sp) (pc_trap image regs.pc)) 0)
      (λ u. decoded_unrefused (instruction_in image (regs.pc - base_of image)))
      (λ u. not_zero (sp_numbered limits regs.sp then pc_numbered image regs.pc) (eqb-false _ _ u)))

  step_unrefused : step_refusal image limits memory ≡ 0 → Unrefused (stepped image limits regs memory)
  step_unrefused valid = rw (step_valid_lem image limits regs memory valid) valid_unrefused

  pub step_number_lem : StepNumbered (step_refusal image limits memory) (stepped image limits regs memory).0.answer
  step_number_lem = go (eqb (step_refusal image limits memory) 0) refl
    where
      go : (t : Bool) → eqb (step_refusal image limits memory) 0 ≡ t →
          StepNumbered (step_refusal image limits memory) (stepped image limits regs memory).0.answer
      go true t = step_numbered _ (eqb-true _ _ t) (stepped image limits regs memory).0.answer (step_unrefused (eqb-true _ _ t))
      go false t =
          let small = refusal_small image limits memory in
          rw (step_refused image limits regs memory _ refl (eqb-false _ _ t))
          record {
            refusal = λ some. refl;
            made = λ e. absurd (eqb-false _ _ t e);
            finished = λ e. let z : ⊥ = omega (arith, small) in absurd z;
            trap = λ e some other. absurd (some e);
          }

  pub step_answered : (s : Stepped) (memory' : List ℕ) → stepped image limits regs memory ≡ (s, memory') →
      (stepped image limits regs memory ≡ (s, memory')) × StepNumbered (step_refusal image limits memory) s.answer
  step_answered s memory' e = (e, subst (λ (r : Result). StepNumbered (step_refusal image limits memory) r.0.answer) e step_number_lem)

-- the same of a run
abbrev RunUnrefused : RunAnswer → Type 0
RunUnrefused Run.Finished = Unit {0}
RunUnrefused Run.Spent = Unit {0}
RunUnrefused (Run.Trap number) = (21 ≤ number) × (number ≤ 25)
RunUnrefused (Run.Refused number) = ⊥

run_numbered : (refused : ℕ) → refused ≡ 0 → (answer : RunAnswer) → RunUnrefused answer → RunNumbered refused answer
run_numbered refused valid Run.Finished h =
    record {
      refusal = λ some. absurd (some valid);
      finished = λ e. refl;
      spent = λ e. let z : ⊥ = omega (arith, e) in absurd z;
      trap = λ e other some. absurd (other refl);
    }
run_numbered refused valid Run.Spent h =
    record {
      refusal = λ some. absurd (some valid);
      finished = λ e. let z : ⊥ = omega (arith, e) in absurd z;
      spent = λ e. refl;
      trap = λ e other some. absurd (some refl);
    }
run_numbered refused valid (Run.Trap number) h =
    record {
      refusal = λ some. absurd (some valid);
      finished = λ e. let z : ⊥ = omega (arith, h.1) in absurd z;
      spent = λ e. let z : ⊥ = omega (arith, h.1) in absurd z;
      trap = λ e other some. h;
    }
run_numbered refused valid (Run.Refused number) h = absurd h

module _ (image : List ℕ) (limits : Limits) where
  after_step_lem : (regs : Registers) (memory : List ℕ) (answer : StepAnswer) → StepUnrefused answer → (rest : Ran × List ℕ) →
      (answer ≡ Made → RunUnrefused rest.0.answer) → RunUnrefused (after_step answer regs memory rest).0.answer
  after_step_lem regs memory Made h rest on = on refl
  after_step_lem regs memory Finished h rest on = tt
  after_step_lem regs memory (Trap number) h rest on = h
  after_step_lem regs memory (Refused number) h rest on = absurd h

  run_unrefused : (budget : ℕ) (regs : Registers) (memory : List ℕ) → step_refusal image limits memory ≡ 0 →
      RunUnrefused (ran budget image limits regs memory).0.answer
  unfolding ran no_steps_left
  run_unrefused zero regs memory valid = rw valid (by_test RunUnrefused (eqb regs.pc 0) (λ t. tt) (λ t. tt))
  run_unrefused (suc budget) regs memory valid =
      let s = stepped image limits regs memory in
      after_step_lem regs memory s.0.answer (step_unrefused image limits regs memory valid) (ran budget image limits s.0.registers s.1)
      (λ m. run_unrefused budget s.0.registers s.1
      (same_refusal image limits memory s.1 (made_step image limits regs memory m).changes.size ∙ valid))

  pub run_number_lem : (budget : ℕ) (regs : Registers) (memory : List ℕ) →
      RunNumbered (step_refusal image limits memory) (ran budget image limits regs memory).0.answer
  run_number_lem budget regs memory = go (eqb (step_refusal image limits memory) 0) refl
    where
      go : (t : Bool) → eqb (step_refusal image limits memory) 0 ≡ t →
          RunNumbered (step_refusal image limits memory) (ran budget image limits regs memory).0.answer
      go true t = run_numbered _ (eqb-true _ _ t) (ran budget image limits regs memory).0.answer (run_unrefused budget regs memory (eqb-true _ _ t))
      go false t =
          let small = refusal_small image limits memory in
          rw (refused_at_once budget image limits regs memory _ (refl, eqb-false _ _ t))
          record {
            refusal = λ some. refl;
            finished = λ e. let z : ⊥ = omega (arith, small) in absurd z;
            spent = λ e. let z : ⊥ = omega (arith, small) in absurd z;
            trap = λ e other some. absurd (eqb-false _ _ t e);
          }

  pub run_answered : (budget : ℕ) (regs : Registers) (memory : List ℕ) (r : Ran) (memory' : List ℕ) →
      ran budget image limits regs memory ≡ (r, memory') →
      (ran budget image limits regs memory ≡ (r, memory')) × RunNumbered (step_refusal image limits memory) r.answer
  run_answered budget regs memory r memory' e =
      (e, subst (λ (x : Ran × List ℕ). RunNumbered (step_refusal image limits memory) x.0.answer) e (run_number_lem budget regs memory))
