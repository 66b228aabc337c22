-- `saved_state::steps_of` meets its contract. The loop's invariant: what is read so far is the number in so many bytes.
use Prim.Native.Nat.{◌-◌, ◌≤◌}
use mathlib.Core.Path.{◌≡◌}
use Rattle.saved_state.specs.Sls.{number_at}
use Rattle.saved_state.proofs.steps_of.Given as goal

abbrev pub invariant-loop-read : goal.invariant-loop-read
invariant-loop-read l = (l.read ≤ l.width) × (l.steps ≡ number_at l.bytes 15 l.read)

abbrev pub decreases-loop-read : goal.decreases-loop-read
decreases-loop-read l = l.width - l.read
