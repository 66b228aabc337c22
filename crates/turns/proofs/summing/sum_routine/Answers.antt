-- `turns::summing::sum_routine` meets its contract. The loop's invariant: what is summed so far and what is left make the routine's turn, and no jump so
-- far goes back.
use Rattle.std.proofs.Common.{arith}
use Rattle.turns.proofs.Holding.{held_most}
use Rattle.turns.proofs.RoutineSums.{summed_none, summed_back, summed_on, summed_all}
use Rattle.turns.proofs.summing.sum_routine.Goals as goal

pub loop-at-init : goal.loop-at-init
loop-at-init c = (omega arith, λ image before given cells. rw given.routine.start_is (summed_none image before _))

pub loop-at-preserved : goal.loop-at-preserved
loop-at-preserved c = (
  rw c.held-turn.ensures (held_most _),
  λ image before given cells.
      let so_far = c.loop-at.invariant.1 image before given cells in
      rw c.held-turn.ensures
      (summed_on image before _ (omega (arith, c.loop-at-test.true, given.routine.end_is)) so_far
      (c.in_ok-counted.ensures.counted image before given cells)),
)

pub returns-in_err-counted-clause-summed : goal.returns-in_err-counted-clause-summed
returns-in_err-counted-clause-summed c image before given cells =
    let so_far = c.loop-at.invariant.1 image before given cells in
    rw c.from_residual.ensures
    (summed_back image before _ (omega (arith, c.loop-at-test.true, given.routine.end_is)) so_far (c.in_err-counted.ensures.counted image before given cells))

pub returns : goal.returns
returns c = record {
  upper_bound = c.loop-at.invariant.0;
  summed = λ image before given cells.
      summed_all image before _ (omega (arith, c.loop-at-test.false, given.routine.end_is)) (c.loop-at.invariant.1 image before given cells);
}
