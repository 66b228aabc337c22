-- `flow_check::uses::call_use` meets its contract.
use Rattle.std.proofs.Common.{eq-eqb, ne_eqb}
use Rattle.control_flow.specs.Measuring.{call_use}
use Rattle.flow_check.proofs.uses.call_use.Goals as goal

pub returns-then-call-eq0 : goal.returns-then-call-eq0
unfolding call_use
returns-then-call-eq0 c = rw (eq-eqb _ _ c.if-call-eq0.true)

pub returns : goal.returns
unfolding call_use
returns c = rw (c.from.ensures, ne_eqb _ _ c.if-call-eq0.false)
