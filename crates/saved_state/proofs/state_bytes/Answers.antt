-- `saved_state::state_bytes` meets its contract.
use Rattle.numbers.specs.Words.{high, low}
use Rattle.saved_state.specs.Sls.{number_bytes, state_bytes}
use Rattle.saved_state.proofs.state_bytes.Goals as goal

pub returns : goal.returns
unfolding state_bytes number_bytes high low
returns c = rw c.number_bytes-s.ensures
