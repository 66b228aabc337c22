-- `execution::Registers::pushes` meets its contract.
use Prim.Native.Nat.{ℕ, ◌+◌, ◌-◌}
use mathlib.Core.Path.{◌≡◌, sym, ap, ◌∙◌}
use native.Mathlib.Omega.{arith}
use Rattle.stm8.specs.Effects.{bytes_wide}
use Rattle.stm8.specs.declared.Place.TheVariants.{Pushed}
use Rattle.stm8.specs.declared.Flow.{Flow}
use Rattle.stm8.proofs.EffectLaws.{wide_most}
use Rattle.image.specs.declared.Limits.{Limits}
use Rattle.numbers.specs.Checks.{first}
use Rattle.stm8.specs.declared.Place.{Place}
use Rattle.stm8.specs.declared.Width.{Width}
use Rattle.storage.specs.Storing.{call_trap, move_trap, stored_at}
use Rattle.execution.specs.Performing.{effect_trap}
use Rattle.numbers.proofs.Checking.{first_pass}
use Rattle.storage.specs.Traps.{number_of}
use Rattle.storage.proofs.TrapLaws.{first_trap}
use Rattle.execution.proofs.Shapes.{push, trapped, made}
use Rattle.execution.proofs.Registers.pushes.Goals as goal

pub overflow_cast-wide : goal.overflow_cast-wide
overflow_cast-wide c = omega (arith, c.bytes_wide-wide.ensures, wide_most c.args.w)

-- 24 is due, or 22 of a call
moved : (limits : Limits) (sp : ℕ) (w : Width) {wide moving : ℕ} → wide ≡ bytes_wide w →
    ((place : Place) (flow : Flow) → moving ≡ move_trap limits sp (record { pops = 0; pushes = wide; place = place; flow = flow })) →
    {call : ℕ} (next : ℕ) (flow : Flow) → call ≡ call_trap next flow →
    first moving call ≡ effect_trap limits sp next (record { pops = 0; pushes = bytes_wide w; place = Pushed w; flow = flow })
moved limits sp w wide moves next flow call = rw (push limits sp next w flow, moves (Pushed w) flow, wide, call)

pub returns-in_err-move_trap : goal.returns-in_err-move_trap
returns-in_err-move_trap c image next flow call is =
    trapped image c.args.limits c.args.self c.args.memory.now next c.args.cycles c.args.c
    (record { pops = 0; pushes = bytes_wide c.args.w; place = Pushed c.args.w; flow = flow })
    c.in_err-move_trap.field-0.0 c.from_residual.result c.from_residual.ensures.1
    (first_trap c.in_err-move_trap.field-0.0 _ ∙
    moved c.args.limits c.args.self.sp c.args.w c.bytes_wide-wide.ensures c.in_err-move_trap.ensures next flow call)

pub returns-in_err-call : goal.returns-in_err-call
returns-in_err-call c image next flow call is =
    trapped image c.args.limits c.args.self c.args.memory.now next c.args.cycles c.args.c
    (record { pops = 0; pushes = bytes_wide c.args.w; place = Pushed c.args.w; flow = flow })
    c.in_err-call.field-0.0 c.from_residual-in_err-call.result c.from_residual-in_err-call.ensures.1
    (sym (ap number_of c.in_err-call.was) ∙ sym (first_pass _) ∙
    moved c.args.limits c.args.self.sp c.args.w c.bytes_wide-wide.ensures c.in_ok-move_trap.ensures next flow call)

pub returns : goal.returns
unfolding stored_at
returns c image next flow call is =
    let sp : c.args.self.sp + 0 - bytes_wide c.args.w ≡ c.sp_after-sp.result = sym (rw c.bytes_wide-wide.ensures at c.sp_after-sp.ensures) in
    let none : 0 ≡ call_trap next flow = sym (ap number_of c.in_ok-call.was) ∙ call in
    rw (c.made.ensures, c.put.ensures)
    (rw sp at
    (made image c.args.limits c.args.self c.args.memory.now next c.args.cycles c.args.c (record { pops = 0; pushes = bytes_wide c.args.w; place = Pushed c.args.w; flow = flow })
    (sym (moved c.args.limits c.args.self.sp c.args.w c.bytes_wide-wide.ensures c.in_ok-move_trap.ensures next flow none) ∙ first_pass 0)
    c.sp_after-sp.result c.args.pc sp (sym is)))
