-- `hex_records::judging::summed` meets its contract.
use Rattle.hex_records.specs.Digits.{pairs}
use Rattle.hex_records.proofs.Sums.{Sums}
use Prim.Native.Nat.{◌-◌}
use Rattle.hex_records.proofs.judging.summed.Given as goal

abbrev pub invariant-loop-k : goal.invariant-loop-k
invariant-loop-k l = Sums (pairs l.line) l.n l.sum l.good l.k

abbrev pub decreases-loop-k : goal.decreases-loop-k
decreases-loop-k l = l.n - l.k
