-- Only whole cells are passed.
use Rattle.std.proofs.Common.{◌-◌, ◌≤◌, length}
use Rattle.resume_cases.proofs.print_cells.Given as goal

abbrev pub invariant-loop-at : goal.invariant-loop-at
invariant-loop-at g l = l.at ≤ length l.cells

abbrev pub decreases-loop-at : goal.decreases-loop-at
decreases-loop-at g l = length l.cells - l.at
