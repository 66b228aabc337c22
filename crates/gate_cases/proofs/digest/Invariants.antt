-- Both sums stay below the modulus.
use Rattle.std.proofs.Common.{◌<◌}
use Rattle.gate_cases.proofs.digest.Given as goal

abbrev pub invariant-loop-at : goal.invariant-loop-at
invariant-loop-at l = (l.a < 65521) × (l.b < 65521)
