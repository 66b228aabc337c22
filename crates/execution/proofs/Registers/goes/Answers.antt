-- `execution::Registers::goes` meets its contract.
use mathlib.Core.Path.{sym, ◌∙◌}
use native.Mathlib.Omega.{arith}
use Rattle.stm8.specs.Effects.{goes}
use Rattle.stm8.specs.declared.Place.TheVariants.{Nowhere}
use Rattle.storage.specs.Storing.{stored_at, memory_after}
use Rattle.execution.proofs.Shapes.{in_range, no_store, made}
use Rattle.execution.proofs.Registers.goes.Goals as goal

pub returns : goal.returns
unfolding stored_at memory_after
returns c image memory limits next flow inside straight is = rw c.made.ensures
    (made image limits c.args.self memory next c.args.cycles c.args.c (goes flow)
    (no_store limits c.args.self.sp next 0 0 flow straight ∙ in_range limits c.args.self.sp inside Nowhere flow)
    c.args.self.sp c.args.pc (omega arith) (sym is))
