-- `execution::Registers::stores` meets its contract.
use Prim.Native.Nat.{◌+◌, ◌-◌}
use mathlib.Core.Path.{refl, sym, ap, ◌∙◌}
use native.Mathlib.Omega.{arith}
use Rattle.stm8.specs.Effects.{moves}
use Rattle.storage.specs.Traps.{number_of}
use Rattle.execution.specs.Performing.{pc_after}
use Rattle.storage.proofs.TrapLaws.{trap_some}
use Rattle.execution.proofs.Shapes.{store, trapped, made}
use Rattle.execution.proofs.Registers.stores.Goals as goal

pub returns-in_err-stored : goal.returns-in_err-stored
returns-in_err-stored c image memory memory' limits pops place none at stored =
    let number = ap number_of c.in_err-stored.was in
    rw (rw (number, trap_some c.in_err-stored.field-0.0) at (stored.after 0))
    (trapped image limits c.args.self memory c.args.next c.args.cycles c.args.c (moves pops 0 place)
    c.in_err-stored.field-0.0 c.from_residual.result c.from_residual.ensures.1
    (sym number ∙ stored.is ∙ sym (store limits c.args.self.sp c.args.next pops place none)))

pub returns : goal.returns
unfolding pc_after
returns c image memory memory' limits pops place none at stored =
    let number = ap number_of c.in_ok-stored.was in
    rw (c.made.ensures, rw number at (stored.after (c.args.self.sp + pops - 0)))
    (made image limits c.args.self memory c.args.next c.args.cycles c.args.c (moves pops 0 place)
    (store limits c.args.self.sp c.args.next pops place none ∙ sym stored.is ∙ number)
    c.args.sp c.args.next (omega (arith, at)) refl)
