-- `hex_records::reading::copy_data` meets its contract. The loop's invariant: the first k bytes of the data are put.
use Prim.Native.Nat.{◌+◌, ◌-◌, ◌≤◌}
use lib.ListN.{length, take}
use Rattle.hex_records.specs.Judging.{line_bytes, data_in}
use Rattle.hex_records.proofs.Puts.{Put}
use Rattle.hex_records.proofs.reading.copy_data.Given as goal

abbrev pub invariant-loop-k : goal.invariant-loop-k
invariant-loop-k l = (l.n + l.count ≤ length l.initial.out) × (l.k ≤ l.count) × Put l.initial.out l.n (take l.k (data_in (line_bytes l.body))) l.out

abbrev pub decreases-loop-k : goal.decreases-loop-k
decreases-loop-k l = l.count - l.k
