-- What giving back the record of a step means.
use Rattle.std.specs.Prelude.{ℕ, ◌<◌, ◌≡◌, List, [], ◌∷◌, map, get_or}
use Rattle.image.specs.declared.Limits.{Limits}
use Rattle.execution.specs.declared.Registers.{Registers}
use Rattle.execution.specs.declared.StepAnswer.TheVariants.{Refused}
use Rattle.machine.specs.Step.{stepped}
use Rattle.records.specs.Recording.{recorded}
use Rattle.records.specs.Back.{stepped_back}

-- a step's record, given back to the memory that the step left: registers and memory are those before it, and it is refused only where the step was
-- refused with 17
pub record Restored (image : List ℕ) (limits : Limits) (regs : Registers) (before : List ℕ) : Type 0 where
  pub registers : (stepped_back (recorded image limits regs before) (stepped image limits regs before).1).0.registers ≡ regs
  pub memory : (stepped_back (recorded image limits regs before) (stepped image limits regs before).1).1 ≡ before
  pub accepted : ((stepped image limits regs before).0.answer ≡ Refused 17 → ⊥) →
      (stepped_back (recorded image limits regs before) (stepped image limits regs before).1).0.number ≡ 0

-- what memory holds at addresses: each with its byte
abbrev pub held_at : List ℕ → List ℕ → List (ℕ × ℕ)
held_at memory addresses = map (λ a. (a, get_or memory a 0)) addresses

-- lower address first
abbrev pub Rising : List ℕ → Type 0
Rising [] = Unit {0}
Rising (a ∷ []) = Unit {0}
Rising (a ∷ b ∷ more) = (a < b) × Rising (b ∷ more)
