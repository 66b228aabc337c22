-- `flow_check::exploring::explore` meets its contract. The loop's invariant is `Exploring`. The number of offsets whose depth is not known and the
-- height of the stack fall by one or more with each visit, and are together no more than the visits that are left.
use Rattle.std.proofs.Common.{◌-◌, ◌≤◌, sym, arith}
use Rattle.control_flow.proofs.Invariant.{begins}
use Rattle.control_flow.proofs.Visits.{ready, visit_keeps, visit_less}
use Rattle.control_flow.proofs.Ends.{ends}
use Rattle.flow_check.proofs.exploring.explore.Goals as goal

pub loop-init : goal.loop-init
loop-init c = (omega arith, λ begun inside. (begun, omega (arith, begun.room), tt))

pub returns-then-e-eq0 : goal.returns-then-e-eq0
returns-then-e-eq0 c asks =
    let s = (c.loop.invariant.1 (begins _ _ (omega arith) _ _ _ asks) asks.inside).0 in
    (ends _ s (omega (arith, c.if-e-eq0.true)), s.slots)

pub loop-preserved : goal.loop-preserved
loop-preserved c =
    let some : 1 ≤ c.loop.e.height = omega (arith, c.if-e-eq0.false) in (
      omega (arith, c.visit-e.ensures.height_bound, c.loop.invariant.0, some),
      λ begun inside.
          let inv = c.loop.invariant.1 begun inside in
          let s = inv.0 in
          let on_top = (s.waiting (c.loop.e.height - 1) (omega (arith, some))).0 in
          let top = c.top-stop.ensures inv.2 (inside _ on_top) in
          let v = c.visit-e.ensures.visited (ready s inside some _ top.at) s.slots (sym top.depth) in
          let visited = v.0 c.args.entry in (
            visit_keeps s inside some _ top.at visited,
            omega (arith, inv.1, visit_less s inside some _ top.at visited),
            v.1 tt,
          ),
    )

pub returns : goal.returns
returns c asks =
    let inv = c.loop.invariant.1 (begins _ _ (omega arith) _ _ _ asks) asks.inside in
    (ends _ inv.0 (omega (arith, inv.1, c.loop-test.false)), inv.0.slots)
