-- `turns::summing::sum_routine` meets its contract. The loop's invariant: what is summed so far and what is left make the routine's turn, and no jump so
-- far goes back.
use Prim.Native.Nat.{ℕ, ◌-◌, ◌≤◌}
use mathlib.Core.List.{List}
use Rattle.decode_pass.specs.Pass.{Given}
use Rattle.turns.specs.Internal.{HeldIn}
use Rattle.turns.proofs.RoutineSums.{SummedTo}
use Rattle.turns.proofs.summing.sum_routine.Given as goal

abbrev pub invariant-loop-at : goal.invariant-loop-at
invariant-loop-at l =
    (l.turn ≤ 4294967296) × ((image before : List ℕ) → Given image l.code l.begins l.r → HeldIn l.turns before → SummedTo image before l.r.index l.at l.turn)

abbrev pub decreases-loop-at : goal.decreases-loop-at
decreases-loop-at l = l.r.end - l.at
