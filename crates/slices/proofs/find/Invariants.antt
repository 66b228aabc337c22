-- The byte sought does not stand before `i`: from either end of what was searched, its index is the same.
use Rattle.std.proofs.Common.{◌≡◌, ◌+◌}
use Rattle.slices.specs.Bytes.{slice, index_of}
use Rattle.slices.proofs.find.Given as goal

abbrev pub invariant-loop-i : goal.invariant-loop-i
invariant-loop-i l = l.from + index_of l.byte (slice l.from l.to l.bytes) ≡ l.i + index_of l.byte (slice l.i l.to l.bytes)
