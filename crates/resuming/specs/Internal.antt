-- What the private functions of resuming ask of each other. No public contract cites it.
use Rattle.std.specs.Prelude.{ℕ, ◌+◌, ◌<◌, ◌≤◌, ◌≡◌, Bool, true, false, cond, ◌⊎◌, List, eqb, get_or, Ok, Err}
use Rattle.std.proofs.Math.Option.{Option, none, some}
use Rattle.numbers.specs.Lists.{Bytes}
use Rattle.stm8.specs.Decoding.{Decoded}
use Rattle.stm8.specs.Effects.{call_target, effect}
use Rattle.stm8.specs.declared.Instruction.{Instruction}
use Rattle.image.specs.declared.Limits.{Limits}
use Rattle.image.specs.Image.{base_of, count_of, start_of}
use Rattle.image.specs.Lengths.{Begins}
use Rattle.code.specs.Code.{instruction_at, Start}
use Rattle.rules.specs.Verdict.{Accepted}
use Rattle.acceptance.specs.Check.{checked}
use Rattle.acceptance.specs.Passed.{depth_in}
use Rattle.execution.specs.declared.Registers.{Registers}
use Rattle.machine.specs.declared.RunAnswer.{RunAnswer}
use Rattle.machine.specs.declared.RunAnswer.TheVariants as Run
use Rattle.gate.specs.GoodPoint.{Callers, Held}
use Rattle.resuming.specs.declared.ResumeAnswer.{ResumeAnswer}
use Rattle.resuming.specs.declared.ResumeAnswer.TheVariants as Resume

-- an image, marks that an accepting check of it left, and where its routines begin
pub record Accepting (image : List ℕ) (limits : Limits) (begins marks : List ℕ) : Type 0 where
  pub bytes : Bytes image
  pub given : List ℕ
  pub need : ℕ
  pub count : ℕ
  pub verdict : (checked image limits given).0 ≡ Accepted need count
  pub left : (checked image limits given).1 ≡ marks
  pub begin : Begins image begins (count_of image)

-- a run that is finished or spent
abbrev pub Untrapped : RunAnswer → Type 0
Untrapped answer = (answer ≡ Run.Finished) ⊎ (answer ≡ Run.Spent)

-- how one ended, by its PC
abbrev pub ending_at : Registers → ResumeAnswer
ending_at regs = cond (eqb regs.pc 0) Resume.Finished Resume.Spent

-- the answer of a test: what it tests holds, or not
abbrev pub Tells : Bool → Type 0 → Type 0
Tells true P = P
Tells false P = P → ⊥

-- the return address of routine r lies at f + 1 and f + 2, its callers' above it, and memory holds all of them
abbrev pub Framed : List ℕ → Limits → List ℕ → List ℕ → ℕ → ℕ → Type 0
Framed image limits marks memory r f = (book : List ℕ) × (c : Callers image limits (depth_in marks) r f book) × Held memory c

-- an address is called
abbrev pub calls_to : Option ℕ → ℕ → Bool
calls_to none address = false
calls_to (some called) address = eqb called address

-- what stands at an offset ends at the offset `next`, and calls the address
abbrev pub is_call_to : ℕ → ℕ → ℕ → ℕ → Decoded → Bool
is_call_to base o next address (Ok (i, n)) = cond (eqb (o + n) next) (calls_to (call_target (base + next) (effect i).flow) address) false
is_call_to base o next address (Err e) = false

-- at a start at offset o stands a call to `target`, and the word is the address after it
pub record CallBefore (image : List ℕ) (word target o : ℕ) : Type 0 where
  pub routine : ℕ
  pub listed : routine < count_of image
  pub start : Start image routine o
  pub instruction : Instruction
  pub size : ℕ
  pub found : instruction_at image routine o ≡ Ok (instruction, size)
  pub calls : call_target (base_of image + (o + size)) (effect instruction).flow ≡ some target
  pub after : word ≡ base_of image + (o + size)

-- there is one, here, or there is none
abbrev pub CallTold : List ℕ → ℕ → ℕ → Bool → ℕ → Type 0
CallTold image word target true at = CallBefore image word target at
CallTold image word target false at = (o : ℕ) → CallBefore image word target o → ⊥

-- the frames of routine r at f are those of a caller and its return address, or there are none
abbrev pub CallerTold : List ℕ → Limits → List ℕ → List ℕ → ℕ → ℕ → Bool → ℕ → ℕ → Type 0
CallerTold image limits marks memory r f true c g =
    (Framed image limits marks memory r f → Framed image limits marks memory c g) × (Framed image limits marks memory c g → Framed image limits marks memory r f)
CallerTold image limits marks memory r f false c g = Framed image limits marks memory r f → ⊥

-- the nearest marked offset below k, or 0
pub record NearestBelow (marks : List ℕ) (k o : ℕ) : Type 0 where
  pub below : o < k
  pub between : (j : ℕ) → o < j → j < k → get_or marks j 0 ≡ 0
  pub last : get_or marks o 0 ≡ 0 → o ≡ 0

-- the last of n routines that begins at an offset or before it
pub record LastBegun (image : List ℕ) (n o r : ℕ) : Type 0 where
  pub listed : r < n
  pub begun : start_of image r ≤ o
  pub later : (j : ℕ) → r < j → j < n → o < start_of image j
