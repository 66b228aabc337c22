-- `resuming::frames::nearest_below` meets its contract. The loop's invariant: no offset above this one and below k is marked.
use Prim.Native.Nat.{ℕ, ◌<◌}
use mathlib.Core.Path.{◌≡◌}
use lib.ListN.{get_or}
use Rattle.resuming.proofs.frames.nearest_below.Given as goal

abbrev pub invariant-loop-o : goal.invariant-loop-o
invariant-loop-o l = (l.o < l.k) × ((j : ℕ) → l.o < j → j < l.k → get_or l.marks j 0 ≡ 0)

abbrev pub decreases-loop-o : goal.decreases-loop-o
decreases-loop-o l = l.o
