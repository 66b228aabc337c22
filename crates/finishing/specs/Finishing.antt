-- What it means that a routine finishes within so many steps: in one run, and in runs one after another.
use Rattle.std.specs.Prelude.{ℕ, ◌≤◌, ◌≡◌, List, [], ◌∷◌}
use Rattle.image.specs.declared.Limits.{Limits}
use Rattle.execution.specs.declared.Registers.{Registers}
use Rattle.machine.specs.Run.{ran, in_parts}
use Rattle.machine.specs.declared.Ran.{Ran}
use Rattle.machine.specs.declared.RunAnswer.TheVariants.{Finished}

-- a run has finished, after at most so many steps
pub record FinishedWithin (most : ℕ) (r : Ran) : Type 0 where
  pub answer : r.answer ≡ Finished
  pub steps : r.steps ≤ most

-- runs with these budgets, each from where the one before was spent, up to one that is not: what the last one answers, and the steps of all
abbrev pub in_pieces : List ℕ → List ℕ → Limits → Registers → List ℕ → Ran × List ℕ
in_pieces [] image limits regs memory = ran 0 image limits regs memory
in_pieces (budget ∷ budgets) image limits regs memory =
    let first = ran budget image limits regs memory in
    in_parts first.0.answer first (in_pieces budgets image limits first.0.registers first.1)
