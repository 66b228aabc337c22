-- Each line ends behind where it begins.
use Rattle.std.proofs.Common.{◌-◌, length}
use Rattle.encodings.proofs.compare.Given as goal

abbrev pub decreases-loop-at : goal.decreases-loop-at
decreases-loop-at l = length l.file - l.at
