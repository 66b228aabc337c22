-- `resuming::frames::depth_in` meets its contract.
use native.Mathlib.Omega.{arith}
use Rattle.resuming.proofs.frames.depth_in.Goals as goal

pub returns-then-mark-eq0 : goal.returns-then-mark-eq0
returns-then-mark-eq0 c = omega (arith, c.if-mark-eq0.true)
