-- `saved_state::state_in` meets its contract.
use Rattle.saved_state.specs.Sls.{state_in}
use Rattle.saved_state.proofs.Saving.{step_bytes_most}
use Rattle.saved_state.proofs.state_in.Goals as goal

pub steps_of-requires : goal.steps_of-requires
steps_of-requires c = rw c.step_bytes-width.ensures (step_bytes_most c.word_at-5.result)

pub returns : goal.returns
unfolding state_in
returns c =
    rw (
      c.steps_of.ensures,
      c.step_bytes-width.ensures,
      c.word_at-5.ensures,
      c.word_at-4.ensures,
      c.word_at-3.ensures,
      c.byte_at-2.ensures,
      c.word_at-2.ensures,
      c.word_at.ensures,
      c.byte_at.ensures,
    )
