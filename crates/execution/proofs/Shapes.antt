-- The shapes of an effect: which traps are due, and what is made where none is, each a law with plain hypotheses.
use Prim.Native.Nat.{ℕ, ◌+◌, ◌≤◌}
use mathlib.Core.Path.{◌≡◌, refl, ap, ◌∙◌, subst}
use mathlib.Core.Bool.{Bool, true, false, cond}
use mathlib.Core.List.{List}
use native.Mathlib.Omega.{arith}
use lib.Dec.{eqb}
use borrow.Author.Tests.{ne_eqb}
use Rattle.numbers.specs.Checks.{first}
use Rattle.numbers.specs.Folds.{first_in}
use Rattle.numbers.proofs.Checking.{first_zero, first_pass, under_zero, under_pass}
use Rattle.numbers.proofs.Folding.{first_none}
use Rattle.stm8.specs.Effects.{relative, bytes_wide, is_call, jump_flow, moves, effect}
use Rattle.stm8.specs.Cycles.{once, either, jump_cycles, cycles, charged}
use Rattle.stm8.specs.declared.Cycles.{Cycles}
use Rattle.stm8.specs.declared.Condition.{Condition}
use Rattle.stm8.specs.declared.Condition.TheVariants.{Jra, Jrf, Jrugt, Jrule, Jrnc, Jrc, Jrne, Jreq}
use Rattle.stm8.specs.declared.Condition.TheVariants.{Jrnv, Jrv, Jrpl, Jrmi, Jrsgt, Jrsle, Jrsge, Jrslt}
use Rattle.stm8.specs.declared.Width.{Width}
use Rattle.stm8.specs.declared.Place.{Place}
use Rattle.stm8.specs.declared.Place.TheVariants.{Nowhere, Pushed}
use Rattle.stm8.specs.declared.Flow.{Flow}
use Rattle.stm8.specs.declared.Effect.{Effect}
use Rattle.stm8.specs.declared.Instruction.{Instruction}
use Rattle.stm8.specs.declared.Instruction.TheVariants.{Jump}
use Rattle.byte_operations.specs.Conditions.{holds}
use Rattle.image.specs.declared.Limits.{Limits}
use Rattle.std.specs.Prelude.{Result, Ok, Err, IsErrAnd}
use Rattle.storage.specs.declared.Trap.{Trap}
use Rattle.storage.specs.Traps.{trap_number}
use Rattle.storage.proofs.TrapLaws.{trap_some, passed_on}
use Rattle.storage.specs.Storing.{sp_trap, move_trap, store_trap, call_trap}
use Rattle.execution.specs.Performing.{effect_trap, sp_after}
use Rattle.storage.specs.Storing.{stored_at, memory_after}
use Rattle.execution.specs.Performing.{pc_after, made as made_of, performed}
use Rattle.execution.specs.Computing.{computed}
use Rattle.execution.specs.Cycles.{instruction_cycles, cost_of}
use Rattle.execution.specs.Internal.{performed_by, performed_as, made_with, timed_as}
use Rattle.execution.specs.declared.Registers.{Registers}
use Rattle.execution.specs.declared.Computed.{Computed}
use Rattle.execution.specs.declared.Performed.{Performed}
use Rattle.execution.specs.declared.TimedStep.{TimedStep}

-- which trap is due
module _ (limits : Limits) (sp : ℕ) where
  -- SP in its range stays there
  pub in_range : sp_trap limits sp ≡ 0 → (place : Place) (flow : Flow) →
      move_trap limits sp (record { pops = 0; pushes = 0; place = place; flow = flow }) ≡ 0
  unfolding sp_trap move_trap first
  in_range inside place flow =
      let bounds = first_zero _ _ inside in
      let low = under_zero _ _ 20 bounds.0 in
      let high = under_zero _ _ 20 bounds.1 in
      rw (under_pass limits.stack.high (sp + 0) 24 (omega arith), under_pass (sp + 0 + 1) (limits.stack.low + 0) 24 (omega arith))

  -- no more is popped than the stack holds
  pub pops_inside : (e : Effect) → move_trap limits sp e ≡ 0 → sp + e.pops ≤ limits.stack.high
  unfolding move_trap
  pops_inside e none = under_zero _ _ 23 (first_zero _ _ none).0

  module _ (next : ℕ) where
    pub no_store : (pops pushes : ℕ) (flow : Flow) → is_call flow ≡ false →
        effect_trap limits sp next (record { pops = pops; pushes = pushes; place = Nowhere; flow = flow }) ≡
        move_trap limits sp (record { pops = pops; pushes = pushes; place = Nowhere; flow = flow })
    unfolding effect_trap first_in store_trap call_trap first
    no_store pops pushes flow call = rw call (first_none _)

    pub push : (w : Width) (flow : Flow) →
        effect_trap limits sp next (record { pops = 0; pushes = bytes_wide w; place = Pushed w; flow = flow }) ≡
        first (move_trap limits sp (record { pops = 0; pushes = bytes_wide w; place = Pushed w; flow = flow })) (call_trap next flow)
    unfolding effect_trap first_in store_trap
    push w flow =
        let moved = move_trap limits sp (record { pops = 0; pushes = bytes_wide w; place = Pushed w; flow = flow }) in
        ap (first moved) (first_pass (first (call_trap next flow) 0) ∙ first_none (call_trap next flow))

    pub store : (pops : ℕ) (place : Place) → move_trap limits sp (moves pops 0 place) ≡ 0 →
        effect_trap limits sp next (moves pops 0 place) ≡ store_trap limits sp place
    unfolding effect_trap first_in call_trap
    store pops place none =
        rw none (first_pass _ ∙ ap (first (store_trap limits sp place)) (first_pass 0) ∙ first_none (store_trap limits sp place))

    -- 24 comes before the others
    pub move_first : (e : Effect) (trap : Trap) → trap_number trap ≡ move_trap limits sp e → trap_number trap ≡ effect_trap limits sp next e
    unfolding effect_trap first_in first
    move_first e trap is = rw (← is, trap_some trap)

-- what comes of it
module _ (image : List ℕ) (limits : Limits) (regs : Registers) (memory : List ℕ) (next cycles : ℕ) (c : Computed) (e : Effect) where
  -- a trap, as `?` passes it on
  pub trapped : (trap : Trap) (r : Result Performed Trap) → IsErrAnd r (λ e. e ≡ trap) → trap_number trap ≡ effect_trap limits regs.sp next e →
      performed_by image limits regs memory next cycles c e ≡ (timed_as regs r, memory)
  unfolding performed_by
  trapped trap r passed is = rw (passed_on trap r passed, ← is, trap_some trap)

  pub made : effect_trap limits regs.sp next e ≡ 0 → (sp pc : ℕ) → sp_after regs.sp e ≡ sp →
      pc_after image memory regs.sp next c.taken e.flow ≡ pc →
      performed_by image limits regs memory next cycles c e ≡
      (timed_as regs (Ok (made_with c sp pc cycles)), memory_after memory (stored_at regs.sp (sp_after regs.sp e) e.place) c.stored)
  unfolding performed_by
  made none sp pc p q = rw (none, p, q)

-- one figure is charged whether or not a condition holds
one_figure : (is : Bool) (n : ℕ) → cond is n n ≡ n
one_figure true n = refl
one_figure false n = refl

-- JRA, whose condition always holds, costs what another jump does that is taken
jump_figures : (cc : ℕ) (o : Condition) → charged (jump_cycles o) (holds o cc) ≡ cond (holds o cc) 2 1
jump_figures cc Jra = refl
jump_figures cc Jrf = refl
jump_figures cc Jrugt = refl
jump_figures cc Jrule = refl
jump_figures cc Jrnc = refl
jump_figures cc Jrc = refl
jump_figures cc Jrne = refl
jump_figures cc Jreq = refl
jump_figures cc Jrnv = refl
jump_figures cc Jrv = refl
jump_figures cc Jrpl = refl
jump_figures cc Jrmi = refl
jump_figures cc Jrsgt = refl
jump_figures cc Jrsle = refl
jump_figures cc Jrsge = refl
jump_figures cc Jrslt = refl

module _ (image : List ℕ) (limits : Limits) (regs : Registers) (memory : List ℕ) (next : ℕ) (i : Instruction) {r : TimedStep × List ℕ} where
  -- the cycles are given as they are
  costs : (n : ℕ) → instruction_cycles image memory regs next i ≡ n → performed_as image limits regs memory next n i ≡ r →
      performed_as image limits regs memory next (instruction_cycles image memory regs next i) i ≡ r
  costs n is e = ap (λ k. performed_as image limits regs memory next k i) is ∙ e

  pub costs_one : (n : ℕ) → cycles i ≡ once n → performed_as image limits regs memory next n i ≡ r →
      performed_as image limits regs memory next (instruction_cycles image memory regs next i) i ≡ r
  unfolding instruction_cycles
  costs_one n is =
      let taken = (computed image memory regs next i).taken in
      costs n (ap (λ (c : Cycles). charged c taken) is ∙ one_figure taken n)

  pub costs_either : (untaken taken : ℕ) → cycles i ≡ either untaken taken →
      performed_as image limits regs memory next (cond (computed image memory regs next i).taken taken untaken) i ≡ r →
      performed_as image limits regs memory next (instruction_cycles image memory regs next i) i ≡ r
  unfolding instruction_cycles
  costs_either untaken taken is =
      let holds = (computed image memory regs next i).taken in
      costs (cond holds taken untaken) (ap (λ (c : Cycles). charged c holds) is)

pub costs_jump : (image : List ℕ) (limits : Limits) (regs : Registers) (memory : List ℕ) (next : ℕ) (o : Condition) (n : ℕ) {r : TimedStep × List ℕ} →
    performed_as image limits regs memory next (cond (holds o regs.cc) 2 1) (Jump o n) ≡ r →
    performed_as image limits regs memory next (instruction_cycles image memory regs next (Jump o n)) (Jump o n) ≡ r
unfolding instruction_cycles computed
costs_jump image limits regs memory next o n =
    costs image limits regs memory next (Jump o n) (cond (holds o regs.cc) 2 1) (jump_figures regs.cc o)

-- what is performed, apart from its cycles
pub record Apart (image : List ℕ) (limits : Limits) (regs : Registers) (memory : List ℕ) (next cycles : ℕ) (i : Instruction) (r : TimedStep × List ℕ) : Type 0 where
  pub is : performed image limits regs memory next i ≡ (r.0.stepped, r.1)
  pub counted : r.0.cycles ≡ cost_of r.0.stepped.answer cycles

pub apart : (image : List ℕ) (limits : Limits) (regs : Registers) (memory : List ℕ) (next cycles : ℕ) (i : Instruction) (r : TimedStep) (memory' : List ℕ) →
    performed_as image limits regs memory next cycles i ≡ (r, memory') → Apart image limits regs memory next cycles i (r, memory')
unfolding performed_as performed_by performed made_of
apart image limits regs memory next cycles i r memory' e =
    subst (Apart image limits regs memory next cycles i) e
    (either_way (eqb trap 0) refl)
  where
    trap : ℕ
    trap = effect_trap limits regs.sp next (effect i)

    either_way : (none : Bool) → eqb trap 0 ≡ none → Apart image limits regs memory next cycles i (performed_as image limits regs memory next cycles i)
    either_way true none = record { is = rw none refl; counted = rw none refl }
    either_way false some = record { is = rw some refl; counted = rw some refl }

-- a jump goes where its condition holds; that of JRA, which has no other way, always does
pub jump_flow_lem : (image memory : List ℕ) (sp next cc offset : ℕ) (o : Condition) →
    cond (holds o cc) (relative next offset) next ≡ pc_after image memory sp next (holds o cc) (jump_flow o offset)
unfolding pc_after
jump_flow_lem image memory sp next cc offset Jra = refl
jump_flow_lem image memory sp next cc offset Jrf = refl
jump_flow_lem image memory sp next cc offset Jrugt = refl
jump_flow_lem image memory sp next cc offset Jrule = refl
jump_flow_lem image memory sp next cc offset Jrnc = refl
jump_flow_lem image memory sp next cc offset Jrc = refl
jump_flow_lem image memory sp next cc offset Jrne = refl
jump_flow_lem image memory sp next cc offset Jreq = refl
jump_flow_lem image memory sp next cc offset Jrnv = refl
jump_flow_lem image memory sp next cc offset Jrv = refl
jump_flow_lem image memory sp next cc offset Jrpl = refl
jump_flow_lem image memory sp next cc offset Jrmi = refl
jump_flow_lem image memory sp next cc offset Jrsgt = refl
jump_flow_lem image memory sp next cc offset Jrsle = refl
jump_flow_lem image memory sp next cc offset Jrsge = refl
jump_flow_lem image memory sp next cc offset Jrslt = refl

-- and neither way is a call
pub no_call : (o : Condition) (offset : ℕ) → is_call (jump_flow o offset) ≡ false
no_call Jra offset = refl
no_call Jrf offset = refl
no_call Jrugt offset = refl
no_call Jrule offset = refl
no_call Jrnc offset = refl
no_call Jrc offset = refl
no_call Jrne offset = refl
no_call Jreq offset = refl
no_call Jrnv offset = refl
no_call Jrv offset = refl
no_call Jrpl offset = refl
no_call Jrmi offset = refl
no_call Jrsgt offset = refl
no_call Jrsle offset = refl
no_call Jrsge offset = refl
no_call Jrslt offset = refl
