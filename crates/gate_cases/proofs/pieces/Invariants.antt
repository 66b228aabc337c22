-- Each piece keeps the memory's length.
use Rattle.std.proofs.Common.{◌≡◌, length}
use Rattle.gate_cases.proofs.pieces.Given as goal

abbrev pub invariant-loop-k : goal.invariant-loop-k
invariant-loop-k l = length l.memory ≡ length l.initial.memory
