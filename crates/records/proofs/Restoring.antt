-- A step's record, given back to the memory that the step left, restores what was before it.
use Prim.Native.Nat.{ℕ, ◌+◌, ◌-◌, ◌≤◌}
use mathlib.Core.Path.{◌≡◌, refl, sym, ap, ◌∙◌}
use mathlib.Core.Logic.{◌⊎◌, inl, inr, ⊎_elim, by_cases}
use mathlib.Core.List.{List, []}
use native.Mathlib.Omega.{arith}
use native.Mathlib.Decide.{ℕ_discrete}
use lib.ListN.{length}
use borrow.Author.Tests.{ne_eqb}
use Rattle.std.specs.Prelude.{Ok, Err}
use Rattle.numbers.specs.Checks.{first, differ}
use Rattle.numbers.proofs.Checking.{differ_pass}
use Rattle.numbers.proofs.Folding.{passed}
use Rattle.stm8.specs.Decoding.{Decoded}
use Rattle.stm8.specs.Effects.{effect}
use Rattle.stm8.specs.declared.Place.{Place}
use Rattle.stm8.specs.declared.Effect.{Effect}
use Rattle.stm8.specs.declared.Instruction.{Instruction}
use Rattle.image.specs.declared.Limits.{Limits}
use Rattle.image.specs.Image.{base_of}
use Rattle.code.specs.Code.{instruction_in}
use Rattle.storage.specs.Storing.{stored_at}
use Rattle.execution.specs.Performing.{Result, effect_trap, sp_after}
use Rattle.execution.specs.declared.Registers.{Registers}
use Rattle.execution.specs.declared.StepAnswer.{StepAnswer}
use Rattle.execution.specs.declared.StepAnswer.TheVariants.{Made, Finished, Trap, Refused}
use Rattle.machine.specs.Step.{step_refusal, stepped}
use Rattle.machine.specs.Changes.{Among, MadeStep}
use Rattle.machine.proofs.EffectForms.{effect_form}
use Rattle.machine.proofs.StepEffect.{sp_moves, areas_hold, memory_size, MadeByEffect, made_by_lem, kept_step}
use Rattle.machine.proofs.StepEffect.{not_made_finished, not_made_trap, not_made_refused}
use Rattle.machine.proofs.StepLaws.{pops_fit, step_refused}
use Rattle.records.specs.Recording.{stored_by, overwrites, overwritten, recorded}
use Rattle.records.specs.Back.{listed, stepped_back}
use Rattle.records.specs.Restored.{Restored, held_at, Rising}
use Rattle.records.proofs.OwnBytes.{lists_own, all_given, none_given}
use Rattle.records.proofs.StoreBounds.{place_below, pushes_own, few_stored, rising_stored}

-- a step that is not made overwrites nothing
none_overwritten : (answer : StepAnswer) (addresses : List ℕ) → (answer ≡ Made → ⊥) → overwrites answer addresses ≡ []
none_overwritten Made addresses other = absurd (other refl)
none_overwritten Finished addresses other = refl
none_overwritten (Trap n) addresses other = refl
none_overwritten (Refused n) addresses other = refl

module _ (image : List ℕ) (limits : Limits) (regs : Registers) (memory : List ℕ) where
  -- where a made step stores, by its instruction
  module _ (made : (stepped image limits regs memory).0.answer ≡ Made) where
    abbrev by : MadeByEffect image limits regs memory (stepped image limits regs memory)
    by = made_by_lem image limits regs memory made

    abbrev step : MadeStep image regs memory (stepped image limits regs memory).0.registers (stepped image limits regs memory).1
    step = by.step

    abbrev moved : Effect
    moved = effect step.instruction

    abbrev stored : List ℕ
    stored = stored_at regs.sp (sp_after regs.sp moved) moved.place

    overwrites_stored : overwritten image limits regs memory ≡ stored
    unfolding overwritten
    overwrites_stored = rw (made, step.found)

    sp_is : (stepped image limits regs memory).0.registers.sp ≡ sp_after regs.sp moved
    sp_is = omega (arith, step.changes.sp)

    stored_below : (a : ℕ) → Among a stored → a ≤ 0x7FFF
    unfolding effect_trap
    stored_below =
        let areas = areas_hold image limits regs memory by.valid in
        let next = regs.pc + step.size in
        place_below limits areas regs.sp (sp_after regs.sp moved) moved.pops moved.pushes
        (sp_moves limits areas regs.sp next moved by.allowed)
        (pops_fit limits regs.sp next moved by.allowed)
        moved.place
        (passed _ by.allowed).1.0
        (pushes_own moved.flow _ _ _ _ _ (effect_form image memory regs next step.instruction))

    memory_full : length memory ≡ 32768
    memory_full = memory_size image limits regs memory by.valid

    made_back : stepped_back (recorded image limits regs memory) (stepped image limits regs memory).1 ≡ (record { number = 0; registers = regs }, memory)
    unfolding recorded
    made_back =
        rw overwrites_stored
        (all_given regs memory stored (stepped image limits regs memory).1 (few_stored regs.sp (sp_after regs.sp moved) moved.place) memory_full
        step.changes.size stored_below
        (λ a outside. step.changes.bytes a (λ among. outside (rw sp_is at among))))

  -- a step that is not made leaves memory as it was, and its record has no bytes
  kept_back : ((stepped image limits regs memory).0.answer ≡ Made → ⊥) →
      stepped_back (recorded image limits regs memory) (stepped image limits regs memory).1 ≡
      (record { number = differ (length memory) 32768 17; registers = regs }, memory)
  unfolding recorded overwritten
  kept_back other =
      rw (
        none_overwritten (stepped image limits regs memory).0.answer (stored_by regs.sp (instruction_in image (regs.pc - base_of image))) other,
        ap (λ (r : Result). r.1) (kept_step image limits regs memory other),
      )
      (none_given regs memory)

  size_refused : (length memory ≡ 32768 → ⊥) → step_refusal image limits memory ≡ 17
  unfolding step_refusal differ first
  size_refused other = rw (ne_eqb (length memory) 32768 other)

  refused_17 : (length memory ≡ 32768 → ⊥) → (stepped image limits regs memory).0.answer ≡ Refused 17
  refused_17 other = ap (λ (r : Result). r.0.answer) (step_refused image limits regs memory 17 (size_refused other) (λ z. omega (arith, z)))

made_or_not : (answer : StepAnswer) → (answer ≡ Made) ⊎ (answer ≡ Made → ⊥)
made_or_not Made = inl refl
made_or_not Finished = inr not_made_finished
made_or_not (Trap n) = inr (not_made_trap n)
made_or_not (Refused n) = inr (not_made_refused n)

abbrev sp_by : ℕ → Decoded → ℕ
sp_by sp (Ok (i, n)) = sp_after sp (effect i)
sp_by sp (Err e) = sp

module _ (image : List ℕ) (limits : Limits) (regs : Registers) (memory : List ℕ) where
  -- what giving back answers, whatever the step answered: 17 where the memory is not 32,768 bytes, as the step did
  pub given_back_lem : stepped_back (recorded image limits regs memory) (stepped image limits regs memory).1 ≡
      (record { number = differ (length memory) 32768 17; registers = regs }, memory)
  given_back_lem =
      ⊎_elim
      (λ made. rw (differ_pass (length memory) 32768 17 (memory_full image limits regs memory made)) (made_back image limits regs memory made))
      (kept_back image limits regs memory)
      (made_or_not (stepped image limits regs memory).0.answer)

  pub restored : Restored image limits regs memory
  restored =
      record {
        registers = rw given_back_lem;
        memory = rw given_back_lem;
        accepted = λ other. rw given_back_lem
            (by_cases (ℕ_discrete (length memory) 32768)
            (differ_pass (length memory) 32768 17)
            (λ short. absurd (other (refused_17 image limits regs memory short))));
      }

  -- the record of a made step lists the bytes that the effect of its instruction stores, by SP before and after the step
  pub lists_stored : (stepped image limits regs memory).0.answer ≡ Made → (i : Instruction) (n : ℕ) →
      instruction_in image (regs.pc - base_of image) ≡ Ok (i, n) →
      listed (recorded image limits regs memory) ≡
      held_at memory (stored_at regs.sp (stepped image limits regs memory).0.registers.sp (effect i).place)
  unfolding recorded overwritten
  lists_stored made i n found =
      let s = (made_by_lem image limits regs memory made).step in
      let sp = sp_is image limits regs memory made ∙ ap (sp_by regs.sp) (sym s.found ∙ found) in
      let after = sp_after regs.sp (effect i) in
      rw (made, found, sp) (lists_own regs memory (stored_at regs.sp after (effect i).place) (few_stored regs.sp after (effect i).place))

  -- any other record lists none
  pub lists_none : ((stepped image limits regs memory).0.answer ≡ Made → ⊥) → listed (recorded image limits regs memory) ≡ []
  unfolding recorded overwritten
  lists_none other =
      rw (none_overwritten (stepped image limits regs memory).0.answer (stored_by regs.sp (instruction_in image (regs.pc - base_of image))) other)

  pub same_size : length (stepped image limits regs memory).1 ≡ length memory
  same_size =
      ⊎_elim
      (λ made. (made_by_lem image limits regs memory made).step.changes.size)
      (λ other. ap (λ (r : Result). length r.1) (kept_step image limits regs memory other))
      (made_or_not (stepped image limits regs memory).0.answer)

-- a place's bytes are two at most, the lower address first
pub stored_in_order : (sp after : ℕ) (place : Place) → (length (stored_at sp after place) ≤ 2) × Rising (stored_at sp after place)
stored_in_order sp after place = (few_stored sp after place, rising_stored sp after place)
