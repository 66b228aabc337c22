-- Each line ends behind where it begins.
use Rattle.std.proofs.Common.{◌-◌, length}
use Rattle.gate_cases.proofs.print_cases.Given as goal

abbrev pub decreases-loop-at : goal.decreases-loop-at
decreases-loop-at g l = length l.text - l.at
