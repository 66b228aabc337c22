-- `flow_check::measuring::check_depths` meets its contract. The loop's invariant is `Measuring`: every start passed is done.
use Rattle.std.proofs.Common.{◌≤◌}
use Rattle.control_flow.specs.Graph.{cells}
use Rattle.control_flow.specs.Routine.{routine}
use Rattle.control_flow.specs.Exploring.{middle}
use Rattle.control_flow.specs.Measuring.{Measurable}
use Rattle.control_flow.proofs.Measures.{Measuring}
use Rattle.flow_check.proofs.measuring.check_depths.Given as goal

abbrev pub invariant-loop-at : goal.invariant-loop-at
invariant-loop-at l =
    let x = routine l.fn.span.entry l.fn.span.end l.cells in
    (l.m.count ≤ l.at) × (Measurable x middle (cells l.depths) l.initial.marks l.fn.counted →
    Measuring x l.needs middle (cells l.depths) l.initial.marks l.fn.counted l.at l.marks l.m.need l.m.count)
