-- `storage::storing::put_direct` meets its contract.
use Rattle.storage.specs.Storing.{stored_at}
use Rattle.storage.proofs.storing.put_direct.Goals as goal

pub returns : goal.returns
unfolding stored_at
returns c sp = record { is = c.in_ok-direct_trap.ensures sp; after = λ sp'. c.put.ensures }
