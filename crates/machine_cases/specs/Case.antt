-- A case as bytes: limits, the size of memory at 12, registers at 14, and for a run the budget at 25.
use Rattle.std.specs.Prelude.{ℕ, List, take, drop}
use Rattle.image.specs.Image.{limits_of}
use Rattle.machine.specs.Step.{stepped}
use Rattle.machine.specs.Run.{ran}
use Rattle.execution.specs.declared.Stepped.{Stepped}
use Rattle.machine.specs.declared.Ran.{Ran}
use Rattle.vectors.specs.Bytes.{long_at, registers_of}

-- the step of a case, on an image and a memory
abbrev pub step_of : List ℕ → List ℕ → List ℕ → Stepped × List ℕ
step_of bytes image memory = stepped image (limits_of bytes) (registers_of (take 11 (drop 14 bytes))) memory

-- its run
abbrev pub run_of : List ℕ → List ℕ → List ℕ → Ran × List ℕ
run_of bytes image memory = ran (long_at bytes 25) image (limits_of bytes) (registers_of (take 11 (drop 14 bytes))) memory
