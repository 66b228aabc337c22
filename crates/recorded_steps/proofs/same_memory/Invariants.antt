use Rattle.std.proofs.Common.{◌≡◌, true, take}
use Rattle.recorded_steps.proofs.same_memory.Given as goal

abbrev pub invariant-loop-k : goal.invariant-loop-k
invariant-loop-k l = l.same ≡ true → take l.k l.a ≡ take l.k l.b
