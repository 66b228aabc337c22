-- What a step changes: one that is not made changes nothing, and one that is made changes what its effect says.
use Prim.Native.Nat.{ℕ, ◌+◌, ◌-◌, ◌<◌}
use mathlib.Core.Path.{◌≡◌, refl, sym, ◌∙◌}
use mathlib.Core.Bool.{Bool, true, false}
use mathlib.Core.List.{List}
use mathlib.Core.Logic.{◌⊎◌, inl, inr, ⊎_elim}
use native.Mathlib.Omega.{arith}
use native.Mathlib.Nat.{mod-eq_of_lt}
use lib.Dec.{eqb}
use lib.ListN.{length}
use borrow.Author.Tests.{eqb-true, ltb-true}
use Rattle.std.specs.Prelude.{Ok, Err}
use Rattle.numbers.specs.Checks.{first}
use Rattle.numbers.proofs.Checking.{by_test, first_zero, under_zero, differ_zero, unless_zero}
use Rattle.numbers.proofs.Folding.{passed}
use Rattle.stm8.specs.Decoding.{Decoded}
use Rattle.stm8.specs.Effects.{effect, is_call}
use Rattle.stm8.specs.declared.Width.TheVariants.{Word}
use Rattle.stm8.specs.declared.Flow.{Flow}
use Rattle.stm8.specs.declared.Flow.TheVariants.{Next, Branch, Jump, Call, CallRelative, Return}
use Rattle.stm8.specs.declared.Effect.{Effect}
use Rattle.stm8.specs.declared.Instruction.{Instruction}
use Rattle.stm8.specs.declared.DecodeError.TheVariants.{Outside, Truncated}
use Rattle.image.specs.declared.Limits.{Limits}
use Rattle.image.specs.Image.{base_of, layout_of}
use Rattle.image.specs.Rules.{LimitsRules}
use Rattle.image.specs.Validation.{validated}
use Rattle.image.proofs.Layouts.{valid_limits}
use Rattle.code.specs.Code.{instruction_in}
use Rattle.storage.specs.Reading.{read_word}
use Rattle.execution.specs.Computing.{computed}
use Rattle.storage.specs.Storing.{sp_trap, move_trap, call_trap, bytes_from}
use Rattle.execution.specs.Performing.{Result, result, effect_trap, sp_after, pc_after, performed}
use Rattle.machine.specs.Step.{pc_trap}
use Rattle.storage.specs.Storing.{stored_at, memory_after}
use Rattle.execution.specs.Performing.{made}
use Rattle.machine.specs.Step.{decoded_step, step_valid, step_refusal, stepped}
use Rattle.machine.specs.Changes.{GoesTo, Changes, MadeStep}
use Rattle.execution.specs.declared.Registers.{Registers}
use Rattle.execution.specs.declared.StepAnswer.TheVariants.{Made, Finished, Trap, Refused}
use Rattle.machine.proofs.Stores.{stored_other, size_kept, word_stored, pushed_word, read_memory}
use Rattle.machine.proofs.StepLaws.{pops_fit}
use Rattle.machine.proofs.EffectForms.{effect_form, call_form}

-- PC
goes_to : (image memory : List ℕ) (sp next : ℕ) (taken : Bool) (flow : Flow) →
    GoesTo next (read_word image memory (sp + 1)) flow (pc_after image memory sp next taken flow)
unfolding pc_after
goes_to image memory sp next taken Next = refl
goes_to image memory sp next true (Branch n) = inl refl
goes_to image memory sp next false (Branch n) = inr refl
goes_to image memory sp next taken (Jump n) = refl
goes_to image memory sp next taken (Call a) = refl
goes_to image memory sp next taken (CallRelative n) = refl
goes_to image memory sp next taken Return = refl

-- SP, where 24 is not due
module _ (limits : Limits) (areas : LimitsRules limits) (sp next : ℕ) (e : Effect) (allowed : effect_trap limits sp next e ≡ 0) where
  pub sp_moves : sp_after sp e + e.pushes ≡ sp + e.pops
  unfolding effect_trap move_trap
  sp_moves =
      let low = areas.stack_low in
      let room = under_zero _ _ 23 (first_zero _ _ (passed _ allowed).0).1 in
      omega arith

  -- and the address after a call, where 22 is not due
  next_word : is_call e.flow ≡ true → next < 0x10000
  unfolding effect_trap call_trap
  next_word call = ltb-true _ _ (unless_zero _ 21 (rw call at (passed _ allowed).1.1.0))

module _ (image : List ℕ) (limits : Limits) (regs : Registers) (memory : List ℕ) (valid : step_refusal image limits memory ≡ 0) where
  pub areas_hold : LimitsRules limits
  unfolding step_refusal validated
  areas_hold = valid_limits image limits (layout_of image) (rw (first_zero _ _ valid).1)

  pub memory_size : length memory ≡ 32768
  unfolding step_refusal
  memory_size = differ_zero _ _ 16 (first_zero _ _ valid).0

  module _ (next : ℕ) (i : Instruction) (allowed : effect_trap limits regs.sp next (effect i) ≡ 0) where
    -- a call stores the address after it just above the new SP
    next_pushed : is_call (effect i).flow ≡ true →
        read_word image (made image regs memory next i).1 (sp_after regs.sp (effect i) + 1) ≡ next
    unfolding made
    next_pushed call =
        let e = effect i in
        let value = (computed image memory regs next i).stored in
        let form = call_form _ _ _ _ next e.flow call (effect_form image memory regs next i) in
        let fits = pops_fit limits regs.sp next e allowed in
        let moves = sp_moves limits areas_hold regs.sp next e allowed in
        let at = sp_after regs.sp e + 1 in
        let inside : at + 1 < 0x8000 = omega (arith, areas_hold.stack.high, form.0, form.1) in
        rw (
          pushed_word regs.sp (sp_after regs.sp e) e.place form.2,
          read_memory image (memory_after memory (bytes_from at Word) value) at inside,
          word_stored memory at value (omega (arith, memory_size)),
        )
        (form.3 ∙ mod-eq_of_lt (next_word limits areas_hold regs.sp next e allowed call))

    made_changes : Changes image next (effect i) regs memory (made image regs memory next i).0.registers (made image regs memory next i).1
    unfolding made
    made_changes =
        let c = computed image memory regs next i in
        record {
          sp = sp_moves limits areas_hold regs.sp next (effect i) allowed;
          pc = goes_to image memory regs.sp next c.taken (effect i).flow;
          size = size_kept memory (stored_at regs.sp (sp_after regs.sp (effect i)) (effect i).place) c.stored;
          bytes = stored_other memory (stored_at regs.sp (sp_after regs.sp (effect i)) (effect i).place) c.stored;
          pushed = next_pushed;
        }

not_finished_trap : (n : ℕ) → Trap n ≡ Finished → ⊥
not_finished_trap n h = let z : ◌≡◌ {A = ℕ} 0 1 = cc in omega arith

not_finished_refused : (n : ℕ) → Refused n ≡ Finished → ⊥
not_finished_refused n h = let z : ◌≡◌ {A = ℕ} 0 1 = cc in omega arith

pub not_made_finished : Finished ≡ Made → ⊥
not_made_finished h = let z : ◌≡◌ {A = ℕ} 0 1 = cc in omega arith

pub not_made_trap : (n : ℕ) → Trap n ≡ Made → ⊥
not_made_trap n h = let z : ◌≡◌ {A = ℕ} 0 1 = cc in omega arith

pub not_made_refused : (n : ℕ) → Refused n ≡ Made → ⊥
not_made_refused n h = let z : ◌≡◌ {A = ℕ} 0 1 = cc in omega arith

module _ (image : List ℕ) (limits : Limits) (regs : Registers) (memory : List ℕ) where
  -- a step that changes nothing
  record Kept (after : Result) : Type 0 where
    answer : after.0.answer ≡ Made → ⊥
    finished : after.0.answer ≡ Finished → regs.pc ≡ 0
    is : after ≡ result after.0.answer regs memory

  -- a step that is made: nothing refused it, and no trap was due
  pub record MadeByEffect (after : Result) : Type 0 where
    pub answer : after.0.answer ≡ Made
    pub step : MadeStep image regs memory after.0.registers after.1
    pub valid : step_refusal image limits memory ≡ 0
    pub allowed : effect_trap limits regs.sp (regs.pc + step.size) (effect step.instruction) ≡ 0

  abbrev Way : Result → Type 0
  Way after = Kept after ⊎ MadeByEffect after

  trap_keeps : (n : ℕ) → Way (result (Trap n) regs memory)
  trap_keeps n = inl (record { answer = not_made_trap n; finished = λ h. absurd (not_finished_trap n h); is = refl })

  module _ (valid : step_refusal image limits memory ≡ 0) where
    made_way : (i : Instruction) (n : ℕ) → instruction_in image (regs.pc - base_of image) ≡ Ok (i, n) →
        effect_trap limits regs.sp (regs.pc + n) (effect i) ≡ 0 → Way (made image regs memory (regs.pc + n) i)
    unfolding made
    made_way i n found allowed =
        inr
        (record {
          answer = refl;
          step =
              record {
                instruction = i;
                size = n;
                found = found;
                changes = made_changes image limits regs memory valid (regs.pc + n) i allowed;
              };
          valid = valid;
          allowed = allowed;
        })

    decoded_way : (d : Decoded) → instruction_in image (regs.pc - base_of image) ≡ d → Way (decoded_step image limits regs memory d)
    unfolding decoded_step performed
    decoded_way (Err Outside) e = trap_keeps 23
    decoded_way (Err Truncated) e = trap_keeps 22
    decoded_way (Ok (i, n)) e =
        by_test Way (eqb (effect_trap limits regs.sp (regs.pc + n) (effect i)) 0) (λ t. made_way i n e (eqb-true _ _ t)) (λ t. trap_keeps _)

    valid_way : Way (step_valid image limits regs memory)
    unfolding step_valid
    valid_way =
        by_test Way (eqb regs.pc 0)
        (λ t. inl (record { answer = not_made_finished; finished = λ h. eqb-true _ _ t; is = refl }))
        (λ t. by_test Way (eqb (first (sp_trap limits regs.sp) (pc_trap image regs.pc)) 0)
        (λ u. decoded_way _ refl)
        (λ u. trap_keeps _))

  way : Way (stepped image limits regs memory)
  unfolding stepped
  way =
      by_test Way (eqb (step_refusal image limits memory) 0)
      (λ t. valid_way (eqb-true _ _ t))
      (λ t. inl (record { answer = not_made_refused _; finished = λ h. absurd (not_finished_refused _ h); is = refl }))

  pub kept_step : ((stepped image limits regs memory).0.answer ≡ Made → ⊥) →
      stepped image limits regs memory ≡ result (stepped image limits regs memory).0.answer regs memory
  kept_step other = ⊎_elim (λ k. k.is) (λ m. absurd (other m.answer)) way

  pub finished_step : (stepped image limits regs memory).0.answer ≡ Finished → regs.pc ≡ 0
  finished_step h = ⊎_elim (λ k. k.finished h) (λ m. absurd (not_made_finished (sym h ∙ m.answer))) way

  pub made_by_lem : (stepped image limits regs memory).0.answer ≡ Made → MadeByEffect (stepped image limits regs memory)
  made_by_lem h = ⊎_elim (λ k. absurd (k.answer h)) (λ m. m) way

  pub made_step : (stepped image limits regs memory).0.answer ≡ Made →
      MadeStep image regs memory (stepped image limits regs memory).0.registers (stepped image limits regs memory).1
  made_step h = (made_by_lem h).step
