-- Each step of an image that only jumps ahead leaves at least 1 less.
use Prim.Native.Nat.{ℕ, suc, ◌+◌, ◌-◌, ◌<◌, ◌≤◌}
use mathlib.Core.Path.{◌≡◌, refl, ◌∙◌}
use mathlib.Core.Bool.{Bool, true, false}
use mathlib.Core.Logic.{⊎_elim}
use mathlib.Core.List.{List, ◌∷◌}
use mathlib.Core.Option.{some}
use native.Mathlib.Omega.{arith}
use Rattle.std.specs.Prelude.{Ok}
use Rattle.numbers.specs.Lists.{Bytes}
use Rattle.numbers.proofs.Bytes.{bytes_dropped}
use Rattle.stm8.specs.Effects.{jump_target, call_target, effect}
use Rattle.stm8.specs.declared.Flow.{Flow}
use Rattle.stm8.specs.declared.Flow.TheVariants.{Next, Branch, Jump, Call, CallRelative, Return}
use Rattle.image.specs.declared.Limits.{Limits}
use Rattle.image.specs.Image.{base_of, count_of, code_of, code_at}
use Rattle.image.proofs.Measuring.{end_inside}
use Rattle.code.specs.Code.{instruction_in, Start, begins}
use Rattle.code.specs.Depth.{falls}
use Rattle.code.proofs.Starts.{same_found, found_inside, found_in_code}
use Rattle.rules.specs.Paths.{Reached}
use Rattle.rules.specs.Rules.{StartRules, Rules}
use Rattle.storage.specs.Reading.{read_word}
use Rattle.machine.specs.Changes.{GoesTo}
use Rattle.machine.specs.Step.{stepped}
use Rattle.machine.proofs.StepEffect.{made_step}
use Rattle.gate.specs.History.{Given, Point, Book, flow, last_of, taken_off, fed_flow, owed_flow, fed_to, fed, owed_by}
use Rattle.gate.specs.Guarantee.{MeetsOwed}
use Rattle.gate.specs.GoodPoint.{MakesStep}
use Rattle.gate.proofs.CheckedCode.{calls_fall}
use Rattle.turns.specs.Turn.{some_jumps_back}
use Rattle.finishing.proofs.Left.{left_in, left_whole, left_behind, left_later, left_call}
use Rattle.finishing.proofs.Ahead.{jumps_ahead}
use Rattle.finishing.proofs.Remaining.{LeftToCallers, nobody, caller, Remains, finished, running}

-- a return goes on behind the last call of the book, or main is done
returns : {image addresses : List ℕ} {v t : ℕ} → LeftToCallers image addresses v → v ≤ t → (returned : Bool) (pc : ℕ) → pc ≡ last_of addresses →
    Remains image pc (taken_off addresses returned).addresses t
returns nobody most returned pc is = finished is
returns (caller listed there at callers) most returned pc is = running listed there (is ∙ at) callers most

module _ (image : List ℕ) (bytes : Bytes image) (limits : Limits) (depth need : ℕ → ℕ) (rules : Rules image limits depth need)
    (ahead : some_jumps_back image ≡ false) where
  -- one instruction, at a start
  module _ (r : ℕ) (listed : r < count_of image) (o : ℕ) (s : Start image r o) (v t : ℕ) (book : Book)
      (callers : LeftToCallers image book.addresses v) (most : left_in image r o + v ≤ suc t) (pc : ℕ) where
    abbrev here : StartRules (Reached image) image limits depth r o
    here = (rules.routines r listed).starts s

    abbrev next : ℕ
    next = base_of image + (o + here.size)

    -- the routine goes on
    goes_on : (to : ℕ) → Start image r to → o < to → pc ≡ base_of image + to → Remains image pc book.addresses t
    goes_on to there later is =
        running listed there is callers (omega (arith, left_later image rules.layout r listed s here.found there later))

    falls_on : falls (effect here.instruction).flow ≡ true → pc ≡ next → Remains image pc book.addresses t
    falls_on e is = goes_on (o + here.size) (here.rules.fall e).start (omega (arith, found_inside image r o here.found)) is

    jumps_on : {address : ℕ} → jump_target next (effect here.instruction).flow ≡ some address → pc ≡ address → Remains image pc book.addresses t
    jumps_on j is =
        let there = here.rules.jump j in
        goes_on there.to there.lands.start
        (omega (arith, jumps_ahead image rules.layout ahead listed s here.found j, there.target)) (is ∙ there.target)

    -- it calls
    enters : {address : ℕ} → call_target next (effect here.instruction).flow ≡ some address → pc ≡ address →
        Remains image pc (next ∷ book.addresses) t
    enters c is =
        let callee = here.rules.call c in
        let back = (here.rules.fall (calls_fall next (effect here.instruction).flow c)).start in
        running {r = callee.0} (omega (arith, callee.1.earlier)) begins (is ∙ callee.1.target) (caller listed back refl callers)
        (omega (arith, left_call image rules.layout r listed s here.found c callee.1, left_whole image callee.0))

    -- by the flow
    goes : (popped : ℕ) (flow : Flow) → (effect here.instruction).flow ≡ flow → GoesTo next popped flow pc → MeetsOwed (owed_flow flow book) pc →
        Remains image pc (fed_flow flow next book).addresses t
    unfolding jump_target call_target
    goes popped Next e to met = falls_on (rw e) to
    goes popped (Branch n) e to met = ⊎_elim (jumps_on (rw e)) (falls_on (rw e)) to
    goes popped (Jump n) e to met = jumps_on (rw e) to
    goes popped (Call a) e to met = enters (rw e) to
    goes popped (CallRelative n) e to met = enters (rw e) to
    goes popped Return e to met =
        returns callers (omega (arith, left_behind image rules.layout r listed s here.found)) book.returned pc met

  -- a step that is made at a start
  pub step_remains : (p : Point) → MakesStep image limits p → {r o v t : ℕ} → r < count_of image → Start image r o →
      p.state.registers.pc ≡ base_of image + o → LeftToCallers image p.book.addresses v → left_in image r o + v ≤ suc t →
      let g : Given = record { image = image; limits = limits } in
      let after = stepped image limits p.state.registers p.state.memory in
      MeetsOwed (owed_by (fed_to g p.state) p.book) after.0.registers.pc →
      Remains image after.0.registers.pc (fed (fed_to g p.state) p.book).addresses t
  unfolding code_of
  step_remains p m {r} {o} {v} {t} listed s is callers most met =
      let regs = p.state.registers in
      let memory = p.state.memory in
      let k = (rules.routines r listed).starts s in
      let made = made_step image limits regs memory m.answer in
      let offset : regs.pc - base_of image ≡ o = omega arith in
      let found : instruction_in image (regs.pc - base_of image) ≡ Ok (k.instruction, k.size) =
      rw offset (found_in_code image r (bytes_dropped (code_at image) image bytes) (end_inside image r listed) o k.found) in
      let same = same_found made.found found in
      let fed-same = same_found m.found found in
      let next : regs.pc + k.size ≡ base_of image + (o + k.size) = omega arith in
      let feeds : fed_to (record { image = image; limits = limits }) p.state ≡ flow (effect k.instruction).flow (base_of image + (o + k.size)) =
      rw (fed-same.0, fed-same.1, next) at m.feeds in
      rw feeds
      (goes r listed o s v t p.book callers most (stepped image limits regs memory).0.registers.pc (read_word image memory (regs.sp + 1))
      (effect k.instruction).flow refl (rw (same.0, same.1, next) at made.changes.pc) (rw feeds at met))
