-- What stands at PC, and where it stores: what the code finds is what the definitions say.
use Prim.Native.Nat.{ℕ, ◌+◌, ◌-◌, ◌<◌}
use mathlib.Core.Path.{◌≡◌, refl, sym, ap, ◌∙◌}
use mathlib.Core.List.{List, []}
use native.Mathlib.Omega.{arith}
use lib.ListN.{length}
use Rattle.std.specs.Prelude.{Ok, Err}
use Rattle.stm8.specs.Decoding.{Decoded}
use Rattle.stm8.specs.Effects.{effect}
use Rattle.stm8.specs.declared.Width.{Width}
use Rattle.stm8.specs.declared.Place.{Place}
use Rattle.stm8.specs.declared.Place.TheVariants.{Nowhere, Direct, OnStack, Pushed}
use Rattle.stm8.specs.declared.Effect.{Effect}
use Rattle.stm8.specs.declared.Instruction.{Instruction}
use Rattle.stm8.specs.declared.DecodeError.{DecodeError}
use Rattle.image.specs.declared.Limits.{Limits}
use Rattle.image.specs.Image.{base_of, code_at, size_of, layout_of}
use Rattle.image.specs.Rules.{ImageRules}
use Rattle.image.specs.Validation.{validated}
use Rattle.image.proofs.Validity.{valid_rules}
use Rattle.code.specs.Code.{instruction_in}
use Rattle.numbers.proofs.Checking.{first_zero}
use Rattle.storage.specs.Storing.{bytes_from, stored_at}
use Rattle.execution.specs.declared.Registers.{Registers}
use Rattle.execution.specs.declared.StepAnswer.TheVariants.{Made}
use Rattle.execution.specs.declared.Stepped.{Stepped}
use Rattle.execution.specs.Performing.{sp_after}
use Rattle.machine.specs.Step.{step_refusal, stepped}
use Rattle.machine.proofs.StepEffect.{made_by_lem}
use Rattle.records.specs.Recording.{record_of, stored_by, overwrites, overwritten, recorded}
use Rattle.records.specs.declared.Record.{Record}

-- the record of a place, by its variant
module _ (regs : Registers) (memory : List ℕ) (after : ℕ) (place : Place) (r : Record) where
  pub at_nowhere : place ≡ Nowhere → r ≡ record_of regs memory [] → r ≡ record_of regs memory (stored_at regs.sp after place)
  unfolding stored_at
  at_nowhere e is = rw e is

  pub at_direct : (a : ℕ) (w : Width) → place ≡ Direct a w → r ≡ record_of regs memory (bytes_from a w) →
      r ≡ record_of regs memory (stored_at regs.sp after place)
  unfolding stored_at
  at_direct a w e is = rw e is

  pub on_stack : (f : ℕ) (w : Width) → place ≡ OnStack f w → r ≡ record_of regs memory (bytes_from (regs.sp + f) w) →
      r ≡ record_of regs memory (stored_at regs.sp after place)
  unfolding stored_at
  on_stack f w e is = rw e is

  pub as_pushed : (w : Width) (sp : ℕ) → place ≡ Pushed w → sp ≡ after → r ≡ record_of regs memory (bytes_from (sp + 1) w) →
      r ≡ record_of regs memory (stored_at regs.sp after place)
  unfolding stored_at
  as_pushed w sp e same is = rw (e, ← same) is

-- an image that follows the rules ends with its code
module _ (image : List ℕ) (rules : ImageRules image) (code : ℕ) (at : code ≡ code_at image) where
  pub long_enough : length image < code → ⊥
  long_enough short = omega (arith, rules.end)

  pub rest_is_code : length image - code ≡ size_of image
  rest_is_code = omega (arith, rules.end)

-- the record of what stands at PC: of an instruction by its effect, of anything else none
module _ (regs : Registers) (memory : List ℕ) (r : Record) (d d' : Decoded) (same : d ≡ d') where
  pub by_effect : (e : Effect) (i : Instruction) (n : ℕ) →
      r ≡ record_of regs memory (stored_at regs.sp (sp_after regs.sp e) e.place) → e ≡ effect i → d ≡ Ok (i, n) →
      r ≡ record_of regs memory (stored_by regs.sp d')
  by_effect e i n is effects found = rw (← same, found, ← effects) is

  pub by_none : {error : DecodeError} → d ≡ Err error → r ≡ record_of regs memory [] → r ≡ record_of regs memory (stored_by regs.sp d')
  by_none none is = rw (← same, none) is

-- a step is made of an image that follows the rules alone
made_image : (image : List ℕ) (limits : Limits) (regs : Registers) (memory : List ℕ) → (stepped image limits regs memory).0.answer ≡ Made → ImageRules image
unfolding step_refusal validated
made_image image limits regs memory made =
    (valid_rules image limits (layout_of image) (rw (first_zero _ _ (made_by_lem image limits regs memory made).valid).1)).1

-- the record of a step by its answer
pub recorded_by : (image : List ℕ) (limits : Limits) (regs : Registers) (memory memory' : List ℕ) (s : Stepped) (r before : Record) →
    stepped image limits regs memory ≡ (s, memory') →
    (ImageRules image → before ≡ record_of regs memory (stored_by regs.sp (instruction_in image (regs.pc - base_of image)))) →
    ((held addresses : List ℕ) → (s.answer ≡ Made → before ≡ record_of regs held addresses) →
    r ≡ record_of regs held (overwrites s.answer addresses)) →
    r ≡ recorded image limits regs memory
unfolding recorded overwritten
recorded_by image limits regs memory memory' s r before is found by =
    rw is
    (by memory (stored_by regs.sp (instruction_in image (regs.pc - base_of image)))
    (λ made. found (made_image image limits regs memory (rw is made))))
