-- `flow_check::uses::used` meets its contract.
use Rattle.control_flow.specs.Measuring.{greatest_use}
use Rattle.flow_check.proofs.uses.used.Goals as goal

pub returns : goal.returns
unfolding greatest_use
returns c =
    rw (
      c.max-2.ensures,
      c.max.ensures,
      c.call_use.ensures,
      c.from.ensures,
      c.from-2.ensures,
      c.from-3.ensures,
      ← c.row.view_is,
    )
