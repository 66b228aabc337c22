-- `execution::Registers::pops` meets its contract.
use mathlib.Core.Path.{sym, ◌∙◌}
use native.Mathlib.Omega.{arith}
use Rattle.stm8.specs.Effects.{place_of, moves}
use Rattle.stm8.specs.declared.Width.TheVariants.{Byte}
use Rattle.stm8.specs.declared.Flow.TheVariants.{Next}
use Rattle.execution.proofs.Shapes.{pops_inside, move_first, trapped}
use Rattle.execution.proofs.Registers.pops.Goals as goal

pub returns-in_err-move_trap : goal.returns-in_err-move_trap
returns-in_err-move_trap c image = let e = moves 1 0 (place_of c.args.x Byte) in
    trapped image c.args.limits c.args.self c.args.memory.now c.args.next c.args.cycles c.args.c e c.in_err-move_trap.field-0.0 c.from_residual.result c.from_residual.ensures.1
    (move_first c.args.limits c.args.self.sp c.args.next e c.in_err-move_trap.field-0.0 (c.in_err-move_trap.ensures (place_of c.args.x Byte) Next))

pub sp_after-requires : goal.sp_after-requires
sp_after-requires c = omega (
  arith,
  pops_inside c.args.limits c.args.self.sp (moves 1 0 (place_of c.args.x Byte)) (sym (c.in_ok-move_trap.ensures (place_of c.args.x Byte) Next)),
  c.well_formed.1.0,
)

pub returns : goal.returns
returns c image = let place = place_of c.args.x Byte in
    c.stores.ensures image c.args.memory.now _ c.args.limits 1 place (sym (c.in_ok-move_trap.ensures place Next)) (omega (arith, c.sp_after.ensures)) c.put_operand-stored.ensures
