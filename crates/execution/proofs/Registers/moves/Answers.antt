-- `execution::Registers::moves` meets its contract: 24, or nothing is stored.
use mathlib.Core.Path.{sym, ◌∙◌}
use native.Mathlib.Omega.{arith}
use Rattle.stm8.specs.declared.Place.TheVariants.{Nowhere}
use Rattle.stm8.specs.declared.Flow.TheVariants.{Next}
use Rattle.storage.specs.Storing.{stored_at, memory_after}
use Rattle.execution.proofs.Shapes.{pops_inside, no_store, trapped, made}
use Rattle.execution.proofs.Registers.moves.Goals as goal

pub returns-in_err-move_trap : goal.returns-in_err-move_trap
returns-in_err-move_trap c image memory next flow straight is =
    trapped image c.args.limits c.args.self memory next c.args.cycles c.args.c (record { pops = c.args.pops; pushes = c.args.pushes; place = Nowhere; flow = flow })
    c.in_err-move_trap.field-0.0 c.from_residual.result c.from_residual.ensures.1
    (c.in_err-move_trap.ensures Nowhere flow ∙ sym (no_store c.args.limits c.args.self.sp next c.args.pops c.args.pushes flow straight))

pub sp_after-requires : goal.sp_after-requires
sp_after-requires c = omega (
  arith,
  pops_inside c.args.limits c.args.self.sp (record { pops = c.args.pops; pushes = c.args.pushes; place = Nowhere; flow = Next })
      (sym (c.in_ok-move_trap.ensures Nowhere Next)),
  c.well_formed.1.0,
)

pub returns : goal.returns
unfolding stored_at memory_after
returns c image memory next flow straight is = rw c.made.ensures
    (made image c.args.limits c.args.self memory next c.args.cycles c.args.c (record { pops = c.args.pops; pushes = c.args.pushes; place = Nowhere; flow = flow })
    (no_store c.args.limits c.args.self.sp next c.args.pops c.args.pushes flow straight ∙ sym (c.in_ok-move_trap.ensures Nowhere flow))
    c.sp_after.result c.args.pc (sym c.sp_after.ensures) (sym is))
