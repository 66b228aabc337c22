-- `storage::storing::put_on_stack` meets its contract.
use Rattle.storage.specs.Storing.{stored_at}
use Rattle.storage.proofs.storing.put_on_stack.Goals as goal

pub returns : goal.returns
unfolding stored_at
returns c = record { is = c.in_ok-stack_trap.ensures; after = λ sp'. c.put.ensures }
