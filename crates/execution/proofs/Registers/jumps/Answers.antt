-- `execution::Registers::jumps` meets its contract.
use mathlib.Core.Path.{◌∙◌}
use Rattle.execution.proofs.Registers.jumps.Goals as goal

pub returns : goal.returns
returns c image memory limits flow inside straight is = rw c.charged.ensures at
    (c.goes.ensures image memory limits c.args.next flow inside straight (c.destination.ensures ∙ is))
