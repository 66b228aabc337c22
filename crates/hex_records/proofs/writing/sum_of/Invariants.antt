-- `hex_records::writing::sum_of` meets its contract.
use Rattle.numbers.specs.Folds.{total}
use mathlib.Core.Path.{◌≡◌}
use Prim.Native.Nat.{◌-◌, ◌%◌, ◌<◌}
use lib.ListN.{length, take}
use Rattle.hex_records.proofs.writing.sum_of.Given as goal

abbrev pub invariant-loop-k : goal.invariant-loop-k
invariant-loop-k l = (l.sum < 256) × (l.sum ≡ total (take l.k l.row) % 256)

abbrev pub decreases-loop-k : goal.decreases-loop-k
decreases-loop-k l = length l.row - l.k
