-- `resuming::frames::nearest_below` meets its contract. The loop's invariant: no offset above this one and below k is marked.
use mathlib.Core.Logic.{by_cases}
use native.Mathlib.Decide.{ℕ_discrete}
use native.Mathlib.Omega.{arith}
use Rattle.resuming.proofs.frames.nearest_below.Goals as goal

pub overflow_sub-o : goal.overflow_sub-o
overflow_sub-o c = omega (arith, c.requires.0)

pub loop-o-init : goal.loop-o-init
loop-o-init c = (omega arith, λ j above below. absurd (omega arith))

pub offset_bounds-marks-o : goal.offset_bounds-marks-o
offset_bounds-marks-o c = omega (arith, c.loop-o.invariant.0, c.ranges.k)

pub bounds-marks-o : goal.bounds-marks-o
bounds-marks-o c = omega (arith, c.loop-o.invariant.0, c.requires.1)

pub returns-then-marks-o-ne0 : goal.returns-then-marks-o-ne0
returns-then-marks-o-ne0 c = record { below = c.loop-o.invariant.0; between = c.loop-o.invariant.1; last = λ z. absurd (c.if-marks-o-ne0.true z) }

pub overflow_sub-o-in-loop-o : goal.overflow_sub-o-in-loop-o
overflow_sub-o-in-loop-o c = omega (arith, c.loop-o-test.true)

pub loop-o-smaller : goal.loop-o-smaller
loop-o-smaller c = omega (arith, c.loop-o-test.true)

pub loop-o-preserved : goal.loop-o-preserved
loop-o-preserved c = (
  omega (arith, c.loop-o.invariant.0),
  λ j above below. by_cases (ℕ_discrete j c.loop-o.o) (λ e. rw e c.if-marks-o-ne0.false) (λ other. c.loop-o.invariant.1 j (omega arith) below),
)

pub returns : goal.returns
returns c = record { below = c.loop-o.invariant.0; between = c.loop-o.invariant.1; last = λ z. omega (arith, c.loop-o-test.false) }
