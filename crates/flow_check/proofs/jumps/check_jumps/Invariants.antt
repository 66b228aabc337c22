-- `flow_check::jumps::check_jumps` meets its contract. The loop's invariant: the jumps of the starts passed land on starts.
use Rattle.control_flow.specs.Graph.{column}
use Rattle.control_flow.proofs.Rising.{Below}
use Rattle.flow_check.specs.Internal.{Lands}
use Rattle.flow_check.proofs.jumps.check_jumps.Given as goal

abbrev pub invariant-loop-at : goal.invariant-loop-at
invariant-loop-at l = Below l.fn.span.entry (column 0 l.cells) (Lands l.cells) l.at
