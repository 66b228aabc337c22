-- An accepted image that only jumps ahead finishes within main's turn: in one run, and in runs whose budgets add up to it.
use Prim.Native.Nat.{ℕ, ◌≤◌}
use mathlib.Core.Path.{◌≡◌, refl, sym}
use mathlib.Core.Bool.{false}
use mathlib.Core.List.{List, [], ◌∷◌}
use Rattle.numbers.specs.Folds.{total}
use Rattle.numbers.specs.Lists.{Bytes}
use Rattle.image.specs.declared.Limits.{Limits}
use Rattle.image.specs.Image.{main_of}
use Rattle.rules.specs.Verdict.{Accepted}
use Rattle.acceptance.proofs.Accepting.{accepted_exactly}
use Rattle.execution.specs.declared.Registers.{Registers}
use Rattle.machine.specs.Run.{ran}
use Rattle.machine.proofs.RunParts.{run_in_parts}
use Rattle.gate.specs.Start.{started}
use Rattle.gate.proofs.Starting.{accepted_start}
use Rattle.turns.specs.Turn.{some_jumps_back, turn_of}
use Rattle.finishing.specs.Finishing.{FinishedWithin, in_pieces}
use Rattle.finishing.proofs.Finishing.{from_rules}

-- An accepted image in which no jump goes to its own or a lower address, started with any A, X, Y, CC and memory: a run with a budget of at least main's
-- turn has finished, after at most main's turn of steps.
pub finishes_within : (image : List ℕ) → Bytes image → (limits : Limits) (marks memory : List ℕ) (a x y cc need count : ℕ) →
    (started image limits marks memory a x y cc).started.verdict ≡ Accepted need count → some_jumps_back image ≡ false →
    (budget : ℕ) → turn_of image (main_of image) ≤ budget →
    let s = started image limits marks memory a x y cc in
    FinishedWithin (turn_of image (main_of image)) (ran budget image limits s.started.registers s.memory).0
finishes_within image bytes limits marks memory a x y cc need count accept ahead budget enough =
    let s = accepted_start image limits marks memory a x y cc need count accept in
    let h = (accepted_exactly image limits marks need count).0 s.accepted in
    rw (s.registers, s.cleared_memory)
    (from_rules image bytes limits h.depth h.needs h.rules ahead memory s.size a x y cc budget enough)

-- Runs one after another are one run with the sum of their budgets.
pub in_pieces_lem : (budgets image : List ℕ) (limits : Limits) (regs : Registers) (memory : List ℕ) →
    in_pieces budgets image limits regs memory ≡ ran (total budgets) image limits regs memory
unfolding total
in_pieces_lem [] image limits regs memory = refl
in_pieces_lem (budget ∷ budgets) image limits regs memory =
    let first = ran budget image limits regs memory in
    rw (in_pieces_lem budgets image limits first.0.registers first.1) (sym (run_in_parts image limits (total budgets) budget regs memory))

-- So a turn that is over is run in pieces: where the budgets add up to it, it has finished.
pub finishes_in_pieces : (image : List ℕ) → Bytes image → (limits : Limits) (marks memory : List ℕ) (a x y cc need count : ℕ) →
    (started image limits marks memory a x y cc).started.verdict ≡ Accepted need count → some_jumps_back image ≡ false →
    (budgets : List ℕ) → turn_of image (main_of image) ≤ total budgets →
    let s = started image limits marks memory a x y cc in
    FinishedWithin (turn_of image (main_of image)) (in_pieces budgets image limits s.started.registers s.memory).0
finishes_in_pieces image bytes limits marks memory a x y cc need count accept ahead budgets enough =
    let s = started image limits marks memory a x y cc in
    rw (in_pieces_lem budgets image limits s.started.registers s.memory)
    (finishes_within image bytes limits marks memory a x y cc need count accept ahead (total budgets) enough)
