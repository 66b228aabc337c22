-- One step of an instruction where a routine runs: no trap stops it, it leaves a good point, a return goes where it must, and nothing is written
-- that may not be. What the instruction computes does not matter.
use Prim.Native.Nat.{ℕ, ◌+◌, ◌-◌, ◌≤◌, ◌<◌}
use mathlib.Core.Path.{◌≡◌, refl, ◌∙◌}
use mathlib.Core.Bool.{Bool, true, false, cond}
use mathlib.Core.Option.{Option, none, some}
use mathlib.Core.List.{List, ◌∷◌}
use native.Mathlib.Omega.{arith}
use lib.ListN.{length}
use borrow.Author.Tests.{lt-ltb}
use Rattle.std.specs.Prelude.{Ok}
use Rattle.numbers.specs.Folds.{first_in}
use Rattle.numbers.specs.Words.{word_at}
use Rattle.numbers.proofs.Checking.{under_pass, unless_pass}
use Rattle.numbers.proofs.Folding.{◌&◌}
use Rattle.stm8.specs.Effects.{relative, jump_target, call_target, effect, is_call}
use Rattle.stm8.specs.declared.Place.{Place}
use Rattle.stm8.specs.declared.Place.TheVariants.{Nowhere}
use Rattle.stm8.specs.declared.Instruction.{Instruction}
use Rattle.stm8.specs.declared.Flow.{Flow}
use Rattle.stm8.specs.declared.Flow.TheVariants.{Next, Branch, Jump, Call, CallRelative, Return}
use Rattle.stm8.specs.declared.Effect.{Effect}
use Rattle.image.specs.declared.Limits.{Limits}
use Rattle.image.specs.Image.{base_of, count_of, start_of}
use Rattle.code.specs.Depth.{moves_depth, popped, pushed, after}
use Rattle.storage.specs.Reading.{read_word}
use Rattle.storage.specs.Storing.{move_trap, call_trap, stored_at, memory_after}
use Rattle.execution.specs.Performing.{Result, result, effect_trap, sp_after, pc_after}
use Rattle.execution.specs.declared.Registers.{Registers}
use Rattle.execution.specs.declared.Computed.{Computed}
use Rattle.execution.specs.declared.StepAnswer.TheVariants.{Made}
use Rattle.machine.proofs.Stores.{word_stored, pushed_word, read_memory}
use Rattle.machine.proofs.EffectForms.{PushesOwn, CallForm, Form}
use Rattle.code.specs.Code.{instruction_at, Start, begins}
use Rattle.rules.specs.Rules.{reported_need, StartAt, behind, calling}
use Rattle.gate.specs.History.{Book, Point, stepped_to, taken_off, last_of, fed_flow, owed_flow}
use Rattle.gate.specs.Guarantee.{Untrapped, MeetsOwed, Unchanged}
use Rattle.gate.specs.GoodPoint.{Callers, called, main, Held, Running, GoodPoint, finished, Agree}
use Rattle.gate.proofs.CheckedCode.{CheckedAt, CheckedCode, calls_fall, resumes}
use Rattle.gate.proofs.Frames.{Frames, placed, held_agrees, stands_good}
use Rattle.gate.proofs.Moves.{Room, store_passes, move_passes, agrees, unchanged}

-- a step's result, with the book after it
abbrev pub point_left : Result → Book → Point
point_left x book = record { state = record { registers = x.0.registers; memory = x.1 }; book = book }

-- what is to be shown of a step's result: by the memory before it, where PC must be if it was a RET, and the book after it
pub record StepHolds (image : List ℕ) (limits : Limits) (depth : ℕ → ℕ) (total : ℕ) (before : List ℕ)
    (owed : Option ℕ) (book : Book) (x : Result) : Type 0 where
  pub untrapped : Untrapped (stepped_to x.0.answer)
  pub good : GoodPoint image limits depth (point_left x book)
  pub met : MeetsOwed owed x.0.registers.pc
  pub kept : Unchanged limits total before x.1

pub unchanged_none : (limits : Limits) (total : ℕ) (memory : List ℕ) → Unchanged limits total memory memory
unchanged_none limits total memory = record { size = refl; same = λ address grant top. refl }

nothing_stored : (memory : List ℕ) (sp after value : ℕ) (place : Place) → place ≡ Nowhere → memory_after memory (stored_at sp after place) value ≡ memory
unfolding stored_at memory_after
nothing_stored memory sp after value place p = rw p

after_moves : (e : Effect) (d : ℕ) → moves_depth e.flow ≡ true → (popped e ≡ e.pops) × (after e d ≡ d - e.pops + e.pushes)
unfolding after popped pushed
after_moves e d t = (rw t, rw t)

call_passes : (next : ℕ) (flow : Flow) → next < 0x10000 → call_trap next flow ≡ 0
unfolding call_trap
call_passes next flow below = rw (lt-ltb next 0x10000 below, unless_pass) (go (is_call flow))
  where
    go : (t : Bool) → ◌≡◌ {A = ℕ} (cond t 0 0) 0
    go true = refl
    go false = refl

no_call : (next : ℕ) (flow : Flow) → is_call flow ≡ false → call_trap next flow ≡ 0
unfolding call_trap
no_call next flow t = rw t

module _ (image : List ℕ) (limits : Limits) (depth : ℕ → ℕ) (total : ℕ) (regs : Registers) (memory : List ℕ) (book : Book) (r o : ℕ)
    (listed : r < count_of image) (frames : Frames image limits depth memory r (regs.sp + depth o) book.addresses)
    (unreturned : book.returned ≡ false) where
  -- the frames as they are after a step that leaves them alone
  kept_frames : (memory' : List ℕ) → Agree limits (regs.sp + depth o) memory memory' →
      Frames image limits depth memory' r (regs.sp + depth o) book.addresses
  kept_frames memory' agree = (frames.0, held_agrees image limits depth memory memory' frames.0 agree frames.1)

  -- the routine goes on
  stays : (regs' : Registers) (memory' : List ℕ) (to : ℕ) → Start image r to → regs'.pc ≡ base_of image + to →
      regs.sp + depth o ≡ regs'.sp + depth to → Agree limits (regs.sp + depth o) memory memory' → Unchanged limits total memory memory' →
      StepHolds image limits depth total memory none book (result Made regs' memory')
  stays regs' memory' to start here same agree kept =
      record {
        untrapped = tt;
        good = stands_good image limits depth _ r to listed start here unreturned (placed image limits depth _ same (kept_frames memory' agree));
        met = tt;
        kept = kept;
      }

  -- it calls
  enters : (regs' : Registers) (memory' : List ℕ) (callee n : ℕ) (i : Instruction) → callee < count_of image → Start image r o →
      instruction_at image r o ≡ Ok (i, n) → call_target (base_of image + (o + n)) (effect i).flow ≡ some (base_of image + start_of image callee) →
      depth (start_of image callee) ≡ 0 → regs'.pc ≡ base_of image + start_of image callee → regs'.sp + 2 ≡ regs.sp →
      word_at memory' (regs'.sp + 1) ≡ base_of image + (o + n) →
      Agree limits (regs.sp + depth o) memory memory' → Unchanged limits total memory memory' →
      StepHolds image limits depth total memory none (record { addresses = (base_of image + (o + n)) ∷ book.addresses; returned = book.returned })
      (result Made regs' memory')
  enters regs' memory' callee n i inside start found calls entry here same stored agree kept =
      let above : Frames image limits depth memory' r (regs'.sp + 2 + depth o) book.addresses =
      placed image limits depth _ (omega arith) (kept_frames memory' agree) in
      let own : Frames image limits depth memory' callee regs'.sp ((base_of image + (o + n)) ∷ book.addresses) =
      (called listed start found calls above.0, (stored, above.1)) in
      record {
        untrapped = tt;
        good =
            stands_good image limits depth _ callee (start_of image callee) inside begins here unreturned
            (placed image limits depth _ (omega arith) own);
        met = tt;
        kept = kept;
      }

-- it returns
module _ (image : List ℕ) (limits : Limits) (depth need : ℕ → ℕ) (code : CheckedCode image limits depth need)
    (sp : ℕ) (memory : List ℕ) (regs' : Registers) (moved : regs'.sp ≡ sp + 2) (read : regs'.pc ≡ word_at memory (sp + 1)) where
  returns : {r f : ℕ} {addresses : List ℕ} (returned : Bool) → r < count_of image → (c : Callers image limits depth r f addresses) → Held memory c →
      returned ≡ false → f ≡ sp →
      StepHolds image limits depth (reported_need image need) memory (some (last_of addresses)) (taken_off addresses returned) (result Made regs' memory)
  returns returned listed (main {f = f} is top) held unreturned here =
      let word : word_at memory (f + 1) ≡ 0 = held in
      let zero_read : regs'.pc ≡ 0 = read ∙ (rw here at word) in
      record {
        untrapped = tt;
        good = finished (record { here = zero_read; top = omega arith; empty = refl; returned = refl });
        met = zero_read;
        kept = unchanged_none limits (reported_need image need) memory;
      }
  returns returned listed (called {c = c} {o = o} {n = n} {f = f} inside start found calls above) held unreturned here =
      let word : word_at memory (f + 1) ≡ base_of image + (o + n) = held.0 in
      let address_read : regs'.pc ≡ base_of image + (o + n) = read ∙ (rw here at word) in
      let back = resumes image limits depth need code listed inside start found calls in
      let deep = back.deep in
      record {
        untrapped = tt;
        good =
            stands_good image limits depth _ c (o + n) inside back.start address_read unreturned
            (placed image limits depth _ (omega arith) (above, held.1));
        met = address_read;
        kept = unchanged_none limits (reported_need image need) memory;
      }

-- by the flow of the instruction
module _ (image : List ℕ) (limits : Limits) (depth need : ℕ → ℕ) (code : CheckedCode image limits depth need)
    (regs : Registers) (memory : List ℕ) (size : length memory ≡ 32768) (book : Book) (y : Running image limits depth regs book)
    (held : Held memory y.callers) (room : Room limits (reported_need image need) (need y.at.routine) regs.sp (depth y.at.offset)) where
  abbrev pub r : ℕ
  r = y.at.routine

  abbrev pub o : ℕ
  o = y.at.offset

  abbrev pub d : ℕ
  d = depth o

  abbrev pub here : CheckedAt image limits depth need r o
  here = code.at y.at.listed y.at.start

  abbrev pub e : Effect
  e = effect here.instruction

  abbrev pub next : ℕ
  next = base_of image + (o + here.size)

  abbrev pub Acts : Computed → ℕ → Option ℕ → Book → Type 0
  Acts c pc owed book' =
      (effect_trap limits regs.sp next e ≡ 0)
      × StepHolds image limits depth (reported_need image need) memory owed book'
      (result Made (record { a = c.a; x = c.x; y = c.y; cc = c.cc; sp = sp_after regs.sp e; pc = pc })
      (memory_after memory (stored_at regs.sp (sp_after regs.sp e) e.place) c.stored))

  plain : (c : Computed) → moves_depth e.flow ≡ true → is_call e.flow ≡ false →
      PushesOwn e.place e.pushes →
      (pc to : ℕ) → pc ≡ base_of image + to → StartAt image depth r to (after e d) → Acts c pc none book
  unfolding effect_trap first_in
  plain c moves straight own pc to there lands =
      let numbers = after_moves e d moves in
      let enough = here.rules.pops_enough in
      let most = here.covered behind in
      let pops : e.pops ≤ d = omega arith in
      let fits : d + e.pushes ≤ need r + e.pops = omega arith in
      let same : regs.sp + d ≡ sp_after regs.sp e + depth to = omega (arith, code.areas.stack_low, room, lands.deep) in (
        move_passes limits code.areas _ _ _ _ room e pops fits &
            store_passes limits code.areas _ _ _ _ room e.place here.rules.store & no_call next e.flow straight & refl,
        stays image limits depth (reported_need image need) regs memory book r o y.at.listed (y.callers, held) y.unreturned _ _ to lands.start there same
            (agrees limits code.areas _ _ _ _ room e pops fits e.place c.stored memory here.rules.store own)
            (unchanged limits code.areas _ _ _ _ room e pops fits e.place c.stored memory here.rules.store own),
      )

  entering : (c : Computed) (address : ℕ) → call_target next e.flow ≡ some address → CallForm e.pops e.pushes e.place c.stored next →
      Acts c address none (record { addresses = next ∷ book.addresses; returned = book.returned })
  unfolding effect_trap first_in
  entering c address call form =
      let no-pops = form.0 in
      let two = form.1 in
      let word-pushed = form.2 in
      let stores = form.3 in
      let callee = here.rules.call call in
      let earlier = callee.1.earlier in
      let listed = y.at.listed in
      let most = here.covered (calling call callee.1) in
      let pops : e.pops ≤ d = omega arith in
      let fits : d + e.pushes ≤ need r + e.pops = omega arith in
      let back = (code.at listed (here.rules.fall (calls_fall next e.flow call)).start).inside in
      let below : next < 0x10000 = omega (arith, code.layout.top) in
      let own : PushesOwn e.place e.pushes = rw (word-pushed, two) (omega arith) in
      let same : sp_after regs.sp e + 2 ≡ regs.sp = omega (arith, code.areas.stack_low, room) in
      let value : c.stored ≡ next = omega arith in
      let stored : word_at (memory_after memory (stored_at regs.sp (sp_after regs.sp e) e.place) c.stored) (sp_after regs.sp e + 1) ≡ next =
      rw (pushed_word regs.sp (sp_after regs.sp e) e.place word-pushed)
      (word_stored memory (sp_after regs.sp e + 1) c.stored (omega (arith, room, code.areas.stack.high)) ∙ value) in (
        move_passes limits code.areas _ _ _ _ room e pops fits &
            store_passes limits code.areas _ _ _ _ room e.place here.rules.store & call_passes next e.flow below & refl,
        enters image limits depth (reported_need image need) regs memory book r o listed (y.callers, held) y.unreturned _ _ callee.0
            here.size here.instruction (omega arith) y.at.start here.stands (rw callee.1.target at call)
            (code.entries callee.0 (omega arith)) callee.1.target same stored
            (agrees limits code.areas _ _ _ _ room e pops fits e.place c.stored memory here.rules.store own)
            (unchanged limits code.areas _ _ _ _ room e pops fits e.place c.stored memory here.rules.store own),
      )

  returning : (c : Computed) → e.flow ≡ Return → e.pops ≡ 2 → e.pushes ≡ 0 → e.place ≡ Nowhere →
      Acts c (read_word image memory (regs.sp + 1)) (some (last_of book.addresses)) (taken_off book.addresses book.returned)
  unfolding effect_trap first_in move_trap
  returning c return two no-pushes nowhere =
      let empty = here.rules.return_empty return in
      let same = nothing_stored memory regs.sp (sp_after regs.sp e) c.stored e.place nowhere in (
        (under_pass _ _ 24 (omega (arith, room)) & under_pass _ _ 24 (omega (arith, room))) &
            store_passes limits code.areas _ _ _ _ room e.place here.rules.store & rw return (no_call next Return refl) & refl,
        rw same
            (returns image limits depth need code regs.sp memory _ (omega arith)
            (read_memory image memory (regs.sp + 1) (omega (arith, room, code.areas.stack.high)))
            book.returned y.at.listed y.callers held y.unreturned (omega arith)),
      )

  -- where a conditional jump goes
  branch : (c : Computed) (n : ℕ) → e.flow ≡ Branch n → PushesOwn e.place e.pushes →
      (taken : Bool) → Acts c (cond taken (relative next n) next) none book
  unfolding jump_target
  branch c n flow own true =
      let jump = here.rules.jump {address = relative next n} (rw flow refl) in
      plain c (rw flow) (rw flow) own _ jump.to jump.target jump.lands
  branch c n flow own false = plain c (rw flow) (rw flow) own _ (o + here.size) refl (here.rules.fall (rw flow))

  pub acts : (c : Computed) (flow : Flow) → e.flow ≡ flow →
      Form flow e.pops e.pushes e.place c.stored next →
      Acts c (pc_after image memory regs.sp next c.taken flow) (owed_flow flow book) (fed_flow flow next book)
  unfolding pc_after jump_target call_target
  acts c Next flow form = plain c (rw flow) (rw flow) form _ (o + here.size) refl (here.rules.fall (rw flow))
  acts c (Branch n) flow form = branch c n flow form c.taken
  acts c (Jump n) flow form =
      let jump = here.rules.jump {address = relative next n} (rw flow refl) in
      plain c (rw flow) (rw flow) form _ jump.to jump.target jump.lands
  acts c (Call a) flow form = entering c a (rw flow refl) form
  acts c (CallRelative n) flow form = entering c (relative next n) (rw flow refl) form
  acts c Return flow form = returning c flow form.0 form.1 form.2
