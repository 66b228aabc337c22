-- `hex_records::writing::put_digits` meets its contract.
use Rattle.hex_records.specs.Records.{record_bytes}
use Rattle.hex_records.proofs.Puts.{Put}
use Prim.Native.Nat.{◌-◌, ◌≤◌}
use lib.ListN.{take}
use Rattle.hex_records.specs.Digits.{spelled}
use Rattle.hex_records.proofs.writing.put_digits.Given as goal

abbrev pub invariant-loop-k : goal.invariant-loop-k
invariant-loop-k l = (l.k ≤ l.count) × Put l.initial.out l.n (spelled (take l.k (record_bytes l.address l.kind l.row))) l.out

abbrev pub decreases-loop-k : goal.decreases-loop-k
decreases-loop-k l = l.count - l.k
