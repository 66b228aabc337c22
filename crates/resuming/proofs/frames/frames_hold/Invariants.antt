-- `resuming::frames::frames_hold` meets its contract. The loop's invariant: the frames of the first routine hold exactly where those of this one do.
use Prim.Native.Nat.{◌+◌, ◌-◌}
use Rattle.resuming.proofs.Walking.{Reaches}
use Rattle.resuming.proofs.frames.frames_hold.Given as goal

abbrev pub invariant-loop-r : goal.invariant-loop-r
invariant-loop-r l = Reaches l.image l.begins l.marks l.memory l.routine l.place l.r l.f

abbrev pub decreases-loop-r : goal.decreases-loop-r
decreases-loop-r l = l.top + 3 - l.f
