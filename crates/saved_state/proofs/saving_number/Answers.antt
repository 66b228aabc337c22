-- `saved_state::saving_number` meets its contract.
use Rattle.saved_state.specs.Sls.{saving_number}
use Rattle.saved_state.proofs.saving_number.Goals as goal

pub returns : goal.returns
unfolding saving_number
returns c = rw c.under.ensures
