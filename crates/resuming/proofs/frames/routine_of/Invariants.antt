-- `resuming::frames::routine_of` meets its contract. The loop's invariant: all routines after this one begin past the offset.
use Prim.Native.Nat.{ℕ, ◌<◌}
use mathlib.Core.List.{List}
use Rattle.image.specs.Image.{start_of}
use Rattle.image.specs.Lengths.{Begins}
use Rattle.resuming.proofs.frames.routine_of.Given as goal

abbrev pub invariant-loop-r : goal.invariant-loop-r
invariant-loop-r l = (l.r < l.count) × ((image : List ℕ) → Begins image l.begins l.count → (j : ℕ) → l.r < j → j < l.count → l.o < start_of image j)

abbrev pub decreases-loop-r : goal.decreases-loop-r
decreases-loop-r l = l.r
