-- `execution::Registers::step` meets its contract: an address of 24 bits is its own remainder.
use native.Mathlib.Nat.{mod-eq_of_lt}
use Rattle.execution.proofs.Shapes.{apart}
use Rattle.execution.proofs.Registers.step.Goals as goal

pub returns : goal.returns
returns c = rw c.timed.ensures (record {
  outcome = (λ small inside.
      (apart c.args.image.now c.args.limits c.args.self c.args.memory.now c.args.next _ c.args.i _ _
      (rw (mod-eq_of_lt small) at (c.perform.ensures inside))).is);
  cost = (λ small inside.
      (apart c.args.image.now c.args.limits c.args.self c.args.memory.now c.args.next _ c.args.i _ _
      (rw (mod-eq_of_lt small) at (c.perform.ensures inside))).counted);
})
