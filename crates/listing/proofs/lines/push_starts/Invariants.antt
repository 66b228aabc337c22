-- `listing::lines::push_starts` meets its contract. The loop's invariant: the lines of the code bytes before the offset are written, and there is
-- room for 35 bytes for each one left.
use Prim.Native.Nat.{◌+◌, ◌-◌, ◌*◌, ◌≤◌}
use mathlib.Core.List.{flat_map}
use lib.ListN.{length}
use Rattle.numbers.specs.Computed.{counting}
use Rattle.listing.specs.Listing.{line_at}
use Rattle.listing.specs.Internal.{Wrote}
use Rattle.listing.proofs.lines.push_starts.Given as goal

abbrev pub invariant-loop-offset : goal.invariant-loop-offset
invariant-loop-offset l =
    (l.offset ≤ l.size) × Wrote l.at l.fn.buffer (flat_map (line_at l.image l.marks) (counting l.offset 0)) l.end l.buffer × (l.end + 35 * (l.size - l.offset) ≤ length l.buffer)
