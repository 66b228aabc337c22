-- The guarantee: what holds in every state of the history of a list of calls from an accepted start.
use Rattle.std.specs.Prelude.{ℕ, ◌+◌, ◌-◌, ◌<◌, ◌≤◌, ◌≡◌, true, ◌⊎◌, List, [], ◌∷◌, length, get_or}
use Rattle.std.proofs.Math.Option.{Option, none, some}
use Rattle.image.specs.declared.Area.{Area}
use Rattle.image.specs.declared.Limits.{Limits}
use Rattle.image.specs.Image.{base_of, count_of}
use Rattle.image.specs.Access.{Granted}
use Rattle.image.specs.Validation.{refusal}
use Rattle.execution.specs.declared.StepAnswer.TheVariants as Step
use Rattle.machine.specs.declared.RunAnswer.TheVariants as Run
use Rattle.code.specs.Code.{Start}
use Rattle.gate.specs.History.{Given, Request, given_to, Answer, initial, stepped_to, ran_to, Moment}

-- every element of a list
abbrev pub All : {A : Type 0} → (A → Type 0) → List A → Type 0
All P [] = Unit {0}
All P (x ∷ xs) = P x × All P xs

-- no step or run has trapped
abbrev pub Untrapped : Answer → Type 0
Untrapped initial = Unit {0}
Untrapped (stepped_to Step.Made) = Unit {0}
Untrapped (stepped_to Step.Finished) = Unit {0}
Untrapped (stepped_to (Step.Trap number)) = ⊥
Untrapped (stepped_to (Step.Refused number)) = Unit {0}
Untrapped (ran_to Run.Finished) = Unit {0}
Untrapped (ran_to Run.Spent) = Unit {0}
Untrapped (ran_to (Run.Trap number)) = ⊥
Untrapped (ran_to (Run.Refused number)) = Unit {0}

-- PC is at an instruction start of a routine
pub record AtStart (image : List ℕ) (pc : ℕ) : Type 0 where
  pub routine : ℕ
  pub listed : routine < count_of image
  pub offset : ℕ
  pub start : Start image routine offset
  pub here : pc ≡ base_of image + offset

-- a return went to the address that it owed
abbrev pub MeetsOwed : Option ℕ → ℕ → Type 0
MeetsOwed none pc = Unit {0}
MeetsOwed (some address) pc = pc ≡ address

-- The top n bytes of a stack area are the n that end at stack high.
pub record InTop (stack : Area) (n address : ℕ) : Type 0 where
  pub above : stack.high < address + n
  pub below : address ≤ stack.high

-- outside both grants and the top n bytes of the stack area every byte is what it was before
pub record Unchanged (limits : Limits) (n : ℕ) (before after : List ℕ) : Type 0 where
  pub size : length after ≡ length before
  pub same : (address : ℕ) → (Granted limits address → ⊥) → (InTop limits.stack n address → ⊥) →
      get_or after address 0 ≡ get_or before address 0

-- what the guarantee promises of a state, a sentence each
pub record Holds (image : List ℕ) (limits : Limits) (need : ℕ) (before : List ℕ) (m : Moment) : Type 0 where
  -- No step or run has trapped.
  pub untrapped : Untrapped m.answer
  -- The routine stands at an instruction start, or it has finished,
  pub stands : AtStart image m.point.state.registers.pc ⊎ (m.point.state.registers.pc ≡ 0)
  -- and it has finished exactly when main has returned.
  pub finished : m.point.state.registers.pc ≡ 0 → m.point.book.returned ≡ true
  pub only_then : m.point.book.returned ≡ true → m.point.state.registers.pc ≡ 0
  -- Each return went to the instruction after the call it belongs to; main's return finished the run.
  pub returned : MeetsOwed m.owed m.point.state.registers.pc
  -- Outside its grants and the top bytes of its stack area, as many as the reported need, every byte of memory is what it was before the start.
  pub unchanged : Unchanged limits need before m.point.state.memory
  -- It never had more stack bytes in use than that need.
  pub in_stack : m.point.state.registers.sp ≤ limits.stack.high
  pub in_use : limits.stack.high - m.point.state.registers.sp ≤ need

-- a call is given the accepted image and limits, or an image or limits that it refuses with 1 to 4
abbrev pub Allowed : Given → Request → Type 0
Allowed accepted c = (given_to c ≡ accepted) ⊎ (0 < refusal (given_to c).image (given_to c).limits)
