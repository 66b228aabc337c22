-- `saved_state::number_bytes` meets its contract. The loop's invariant: the bytes of what is left, and those written so far, are the number's.
use Prim.Native.Nat.{◌≤◌}
use mathlib.Core.Path.{◌≡◌}
use mathlib.Core.List.{◌++◌}
use lib.ListN.{length, drop}
use Rattle.saved_state.specs.Sls.{number_bytes}
use Rattle.saved_state.proofs.number_bytes.Given as goal

abbrev pub invariant-loop-at : goal.invariant-loop-at
invariant-loop-at l = (l.at ≤ 8) × (length l.bytes ≡ 8) × (number_bytes l.at l.left ++ drop l.at l.bytes ≡ number_bytes 8 l.number)

abbrev pub decreases-loop-at : goal.decreases-loop-at
decreases-loop-at l = l.at
