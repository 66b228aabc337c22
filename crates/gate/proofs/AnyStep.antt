-- A step that a list may hold, from any good point: it is made, finished or refused, and leaves a good point.
use Prim.Native.Nat.{ℕ, ◌+◌, ◌-◌, ◌<◌}
use mathlib.Core.Path.{◌≡◌, refl, sym, ap, ◌∙◌}
use mathlib.Core.Logic.{◌⊎◌, inl, inr}
use mathlib.Core.List.{List}
use native.Mathlib.Omega.{arith}
use lib.ListN.{length}
use borrow.Author.Tests.{eq-eqb, ne_eqb}
use Rattle.std.specs.Prelude.{Ok}
use Rattle.numbers.proofs.Checking.{first_pass, under_pass, differ_pass}
use Rattle.numbers.proofs.Folding.{◌&◌}
use Rattle.stm8.specs.Effects.{effect}
use Rattle.stm8.specs.declared.Instruction.{Instruction}
use Rattle.image.specs.declared.Limits.{Limits}
use Rattle.image.specs.Image.{base_of}
use Rattle.code.specs.Code.{instruction_in}
use Rattle.image.specs.Rules.{LimitsRules, ImageRules}
use Rattle.image.specs.Validation.{refusal, validation_number}
use Rattle.image.proofs.Validity.{number, rules_valid}
use Rattle.execution.specs.Computing.{computed}
use Rattle.storage.specs.Storing.{sp_trap}
use Rattle.execution.specs.Performing.{Result, effect_trap, pc_after, made}
use Rattle.machine.specs.Step.{pc_trap, decoded_step, step_refusal, stepped}
use Rattle.execution.specs.declared.Registers.{Registers}
use Rattle.machine.proofs.StepLaws.{step_refused, step_valid_lem, finished as finishes, decodes, makes}
use Rattle.machine.proofs.EffectForms.{effect_form}
use Rattle.rules.specs.Rules.{reported_need, before as used_before}
use Rattle.gate.specs.History.{Given, Point, Book, Fed, nothing, flow, fed_to, fed, fed_flow, owed_by, owed_flow}
use Rattle.gate.specs.GoodPoint.{Held, AtEnd, Running, GoodPoint, finished, running, MakesStep}
use Rattle.gate.proofs.CheckedCode.{CheckedCode}
use Rattle.gate.proofs.Frames.{callers_top, callers_room}
use Rattle.gate.proofs.Moves.{Room}
use Rattle.gate.proofs.OneStep.{StepHolds, Acts, unchanged_none, acts}

-- what the rules hold of is not refused
no_refusal : (image : List ℕ) (limits : Limits) → LimitsRules limits → ImageRules image → refusal image limits ≡ 0
no_refusal image limits areas layout = sym (number image limits) ∙ ap validation_number (rules_valid image limits areas layout)

-- with memory of 32,768 bytes a step is refused as the image and limits are
step_refusal_lem : (image : List ℕ) (limits : Limits) (memory : List ℕ) → length memory ≡ 32768 → step_refusal image limits memory ≡ refusal image limits
unfolding step_refusal
step_refusal_lem image limits memory size = rw (differ_pass (length memory) 32768 17 size) (first_pass (refusal image limits))

-- what a step feeds to the book: one that is refused, one that is finished, and one that is made
module _ (image : List ℕ) (limits : Limits) (regs : Registers) (memory : List ℕ) where
  abbrev feeds : Fed
  feeds = fed_to (record { image = image; limits = limits }) (record { registers = regs; memory = memory })

  refused_fed : (step_refusal image limits memory ≡ 0 → ⊥) → feeds ≡ nothing
  unfolding fed_to
  refused_fed refuses = rw (ne_eqb (step_refusal image limits memory) 0 refuses)

  module _ (valid : step_refusal image limits memory ≡ 0) where
    finished_fed : regs.pc ≡ 0 → feeds ≡ nothing
    unfolding fed_to
    finished_fed e = rw (valid, eq-eqb regs.pc 0 e)

    module _ (on : regs.pc ≡ 0 → ⊥) (inside : pc_trap image regs.pc ≡ 0) (i : Instruction) (n : ℕ)
        (found : instruction_in image (regs.pc - base_of image) ≡ Ok (i, n)) where
      made_fed : feeds ≡ flow (effect i).flow (regs.pc + n)
      unfolding fed_to
      made_fed = rw (valid, ne_eqb regs.pc 0 on, inside, found)

      -- nothing stops the last, so it is made
      step_makes : sp_trap limits regs.sp ≡ 0 → effect_trap limits regs.sp (regs.pc + n) (effect i) ≡ 0 →
          stepped image limits regs memory ≡ made image regs memory (regs.pc + n) i
      step_makes sp passes =
          step_valid_lem image limits regs memory valid ∙
          decodes image limits regs memory (ne_eqb _ _ on) _ refl (eq-eqb _ _ (sp & inside)) ∙
          ap (decoded_step image limits regs memory) found ∙
          makes image limits regs memory i n passes

module _ (image : List ℕ) (limits : Limits) (depth need : ℕ → ℕ) (code : CheckedCode image limits depth need) where
  -- where a routine stands, in numbers
  pub room_here : {regs : Registers} {book : Book} (y : Running image limits depth regs book) →
      Room limits (reported_need image need) (need y.at.routine) regs.sp (depth y.at.offset)
  room_here y =
      record {
        top = callers_top image limits depth y.callers;
        left = callers_room image limits depth need code y.at.listed y.callers;
        depth = (code.at y.at.listed y.at.start).covered used_before;
        area = code.room;
      }

  pub on_code : {regs : Registers} {book : Book} → Running image limits depth regs book → regs.pc ≡ 0 → ⊥
  on_code y e = omega (arith, code.layout.base, y.at.here)

  -- at PC 0 main has returned, and the book is empty
  pub at_end : {p : Point} → GoodPoint image limits depth p → p.state.registers.pc ≡ 0 → AtEnd limits p.state.registers p.book
  at_end (finished y) e = y
  at_end (running y h) e = absurd (on_code y e)

  -- what is to be shown of a step given g
  abbrev pub Steps : Given → Point → Type 0
  Steps g p =
      StepHolds image limits depth (reported_need image need) p.state.memory
      (owed_by (fed_to g p.state) p.book) (fed (fed_to g p.state) p.book)
      (stepped g.image g.limits p.state.registers p.state.memory)

  module _ (p : Point) (size : length p.state.memory ≡ 32768) where
    abbrev accepted : Given
    accepted = record { image = image; limits = limits }

    pub valid : step_refusal image limits p.state.memory ≡ 0
    valid = step_refusal_lem image limits p.state.memory size ∙ no_refusal image limits code.areas code.layout

    module _ (y : Running image limits depth p.state.registers p.book) (held : Held p.state.memory y.callers) where
      done : let k = code.at y.at.listed y.at.start in
          let next = base_of image + (y.at.offset + k.size) in
          let c = computed image p.state.memory p.state.registers next k.instruction in
          Acts image limits depth need code p.state.registers p.state.memory size p.book y held (room_here y) c
          (pc_after image p.state.memory p.state.registers.sp next c.taken (effect k.instruction).flow)
          (owed_flow (effect k.instruction).flow p.book) (fed_flow (effect k.instruction).flow next p.book)
      done =
          let k = code.at y.at.listed y.at.start in
          let next = base_of image + (y.at.offset + k.size) in
          acts image limits depth need code p.state.registers p.state.memory size p.book y held (room_here y)
          (computed image p.state.memory p.state.registers next k.instruction) (effect k.instruction).flow refl
          (effect_form image p.state.memory p.state.registers next k.instruction)

      next_is : let k = code.at y.at.listed y.at.start in p.state.registers.pc + k.size ≡ base_of image + (y.at.offset + k.size)
      next_is = omega (arith, y.at.here)

      made_here : MakesStep image limits p
      unfolding sp_trap pc_trap made
      made_here =
          let regs = p.state.registers in
          let memory = p.state.memory in
          let k = code.at y.at.listed y.at.start in
          let room = room_here y in
          let here = y.at.here in
          let inside = k.inside in
          let low = code.areas.stack_low in
          let offset : regs.pc - base_of image ≡ y.at.offset = omega arith in
          let found : instruction_in image (regs.pc - base_of image) ≡ Ok (k.instruction, k.size) = rw offset k.found in
          let sp_in : sp_trap limits regs.sp ≡ 0 = under_pass _ _ 21 (omega arith) & under_pass _ _ 21 (omega arith) in
          let pc_in : pc_trap image regs.pc ≡ 0 = under_pass _ _ 22 (omega arith) & under_pass _ _ 22 (omega arith) in
          let is = step_makes image limits regs memory valid (on_code y) pc_in k.instruction k.size found sp_in (rw next_is done.0) in
          record {
            instruction = k.instruction;
            size = k.size;
            found = found;
            is = is;
            answer = ap (λ (x : Result). x.0.answer) is;
            feeds = made_fed image limits regs memory valid (on_code y) pc_in k.instruction k.size found;
          }

      running_step : Steps accepted p
      unfolding made made_here
      running_step = rw (made_here.is, made_here.feeds, next_is) done.1

    -- from a good point the step is made, unless PC is 0
    pub makes_step : GoodPoint image limits depth p → (p.state.registers.pc ≡ 0 → ⊥) → MakesStep image limits p
    makes_step (finished y) on = absurd (on y.here)
    makes_step (running y h) on = made_here y h

    good_step : GoodPoint image limits depth p → Steps accepted p
    good_step (running y h) = running_step y h
    good_step (finished y) =
        let regs = p.state.registers in
        let memory = p.state.memory in
        let end = step_valid_lem image limits regs memory valid ∙ finishes image limits regs memory (eq-eqb _ _ y.here) in
        rw (end, finished_fed image limits regs memory valid y.here)
        record { untrapped = tt; good = finished y; met = tt; kept = unchanged_none limits (reported_need image need) memory }

    -- the accepted image and limits, or some that are refused
    pub any_step : (g : Given) → (g ≡ accepted) ⊎ (0 < refusal g.image g.limits) → GoodPoint image limits depth p → Steps g p
    any_step g (inl e) good = rw e (good_step good)
    any_step g (inr above) good =
        let regs = p.state.registers in
        let memory = p.state.memory in
        let refuses : step_refusal g.image g.limits memory ≡ 0 → ⊥ = λ e. omega (arith, step_refusal_lem g.image g.limits memory size) in
        rw (step_refused g.image g.limits regs memory _ refl refuses, refused_fed g.image g.limits regs memory refuses)
        record { untrapped = tt; good = good; met = tt; kept = unchanged_none limits (reported_need image need) memory }
