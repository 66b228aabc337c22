-- `flow_check::measuring::check_depth` meets its contract.
use Rattle.std.proofs.Common.{arith}
use Rattle.control_flow.specs.Exploring.{middle}
use Rattle.control_flow.proofs.DepthNumbers.{Inside}
use Rattle.flow_check.proofs.Depths.{depth_outside, depth_denied, depth_lost, depth_allowed}
use Rattle.flow_check.proofs.measuring.check_depth.Goals as goal
use Rattle.flow_check.proofs.measuring.check_depth.Goals.{
  then-held-lt-MIDDLE-via-then-held-lt-MIDDLE,
  then-held-lt-MIDDLE-via-else-held-lt-MIDDLE+then-held,
  then-held-lt-MIDDLE-via-else-held-lt-MIDDLE+else-held+then-raised-pops,
  then-held-lt-MIDDLE-via-else-held-lt-MIDDLE+else-held+else-raised-pops+then-pops-raised,
  Joined-else-row-eq0,
  else-row-eq0-via-then-row-eq0+then-row-eq0-2+else-held-ne-MIDDLE,
  else-row-eq0-via-then-row-eq0+else-row-eq0-2,
  else-row-eq0-via-else-row-eq0,
}

pub returns-then-held-lt-MIDDLE-clause-number : goal.returns-then-held-lt-MIDDLE-clause-number
returns-then-held-lt-MIDDLE-clause-number c =
    rw (← c.row.view_is)
    (depth_outside _ _ _ _ _ _ _ _
    (λ i.
    elim c.then-held-lt-MIDDLE.branch [
      | then-held-lt-MIDDLE-via-then-held-lt-MIDDLE w ↦ omega (arith, i.before_low)
      | then-held-lt-MIDDLE-via-else-held-lt-MIDDLE+then-held w ↦ omega (arith, i.before_high)
      | then-held-lt-MIDDLE-via-else-held-lt-MIDDLE+else-held+then-raised-pops w ↦ omega (arith, i.after_low)
      | then-held-lt-MIDDLE-via-else-held-lt-MIDDLE+else-held+else-raised-pops+then-pops-raised w ↦ omega (arith, i.after_high)
    ]))

pub returns-then-held-ne-MIDDLE-clause-number : goal.returns-then-held-ne-MIDDLE-clause-number
returns-then-held-ne-MIDDLE-clause-number c =
    rw (← c.row.view_is)
    (depth_outside _ _ _ _ _ _ _ _ (λ i. c.if-held-ne-MIDDLE.true (i.ended c.if-row-eq0.true c.if-row-eq0-2.true)))

inside : (c : Joined-else-row-eq0) → let r = c.row.inside in
    Inside middle c.args.held r.fall r.jump r.pops r.pushes r.store r.call
inside c =
    record {
      before_low = c.if-held-lt-MIDDLE.false;
      before_high = c.if-held.false;
      after_low = omega arith;
      after_high = omega arith;
      ended = λ fall jump.
          elim c.else-row-eq0.branch [
            | else-row-eq0-via-then-row-eq0+then-row-eq0-2+else-held-ne-MIDDLE w ↦ omega arith
            | else-row-eq0-via-then-row-eq0+else-row-eq0-2 w ↦ absurd (omega arith)
            | else-row-eq0-via-else-row-eq0 w ↦ absurd (omega arith)
          ];
    }

pub returns-then-held-from-clause-number : goal.returns-then-held-from-clause-number
returns-then-held-from-clause-number c =
    rw (← c.row.view_is) (depth_denied _ _ _ _ _ _ _ _ (inside (goal.at.returns-then-held-from-clause-number c).Joined-else-row-eq0) (omega arith))

pub returns-then-row-gt32-clause-number : goal.returns-then-row-gt32-clause-number
returns-then-row-gt32-clause-number c =
    rw (← c.row.view_is)
    (depth_lost _ _ _ _ _ _ _ _ (inside (goal.at.returns-then-row-gt32-clause-number c).Joined-else-row-eq0) (omega arith) c.if-row-gt32.true)

pub returns-clause-number : goal.returns-clause-number
returns-clause-number c =
    rw (← c.row.view_is)
    (depth_allowed _ _ _ _ _ _ _ _ (inside (goal.at.returns-clause-number c).Joined-else-row-eq0) (omega arith) c.if-row-gt32.false)
