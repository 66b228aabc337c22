-- `saved_state::save` meets its contract.
use mathlib.Core.Path.{sym, ◌∙◌}
use Rattle.saved_state.proofs.Saving.{saving_fits, saved_refused, saved_written}
use Rattle.saved_state.proofs.save.Goals as goal

pub returns-then-number-ne0 : goal.returns-then-number-ne0
returns-then-number-ne0 c = saved_refused _ _ c.saving_number-number.ensures c.if-number-ne0.true

pub state_bytes-bytes-requires : goal.state_bytes-bytes-requires
state_bytes-bytes-requires c = saving_fits _ (sym c.saving_number-number.ensures ∙ c.if-number-ne0.false)

pub returns : goal.returns
returns c = saved_written _ _ c.saving_number-number.ensures c.if-number-ne0.false c.state_bytes-bytes.ensures
