-- No more steps differ than were made.
use Rattle.std.proofs.Common.{◌≤◌}
use Rattle.recorded_steps.proofs.compare.Given as goal

abbrev pub invariant-loop-steps : goal.invariant-loop-steps
invariant-loop-steps g l = l.differences ≤ l.steps
