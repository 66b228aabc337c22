-- One step: 17 and 1 to 4, then finished, then the traps in document 01's order, then made.
use Rattle.std.specs.Prelude.{ℕ, ◌+◌, ◌-◌, ◌≤◌, ◌≡◌, cond, List, eqb, length, Ok, Err}
use Rattle.numbers.specs.Checks.{first, under, differ}
use Rattle.stm8.specs.Decoding.{Decoded}
use Rattle.stm8.specs.declared.DecodeError.TheVariants.{Outside, Truncated}
use Rattle.image.specs.declared.Limits.{Limits}
use Rattle.image.specs.Image.{base_of, size_of}
use Rattle.image.specs.Validation.{refusal}
use Rattle.code.specs.Code.{instruction_in}
use Rattle.storage.specs.Storing.{sp_trap}
use Rattle.execution.specs.Performing.{Result, result, performed}
use Rattle.execution.specs.declared.Registers.{Registers}
use Rattle.execution.specs.declared.StepAnswer.{StepAnswer}
use Rattle.execution.specs.declared.StepAnswer.TheVariants.{Made, Finished, Trap, Refused}

-- 22, PC not in the code
unfoldable pub pc_trap : List ℕ → ℕ → ℕ
pc_trap image pc = first (under pc (base_of image) 22) (under (base_of image + size_of image) (pc + 1) 22)

-- 23 outside the set, 22 where the bytes run out
abbrev pub decoding_trap : Decoded → ℕ
decoding_trap (Ok (i, n)) = 0
decoding_trap (Err Outside) = 23
decoding_trap (Err Truncated) = 22

-- what stands at PC
unfoldable pub decoded_step : List ℕ → Limits → Registers → List ℕ → Decoded → Result
decoded_step image limits regs memory (Err e) = result (Trap (decoding_trap (Err e))) regs memory
decoded_step image limits regs memory (Ok (i, n)) = performed image limits regs memory (regs.pc + n) i

-- a step that is not refused; where PC is 0 nothing changes
unfoldable pub step_valid : List ℕ → Limits → Registers → List ℕ → Result
step_valid image limits regs memory =
    let trap = first (sp_trap limits regs.sp) (pc_trap image regs.pc) in
    cond (eqb regs.pc 0) (result Finished regs memory)
    (cond (eqb trap 0)
    (decoded_step image limits regs memory (instruction_in image (regs.pc - base_of image)))
    (result (Trap trap) regs memory))

-- 17, memory not 32,768 bytes, then 1 to 4
unfoldable pub step_refusal : List ℕ → Limits → List ℕ → ℕ
step_refusal image limits memory = first (differ (length memory) 32768 17) (refusal image limits)

unfoldable pub stepped : List ℕ → Limits → Registers → List ℕ → Result
stepped image limits regs memory =
    let number = step_refusal image limits memory in
    cond (eqb number 0) (step_valid image limits regs memory) (result (Refused number) regs memory)

-- the number of an answer: document 01's, and where it has none 0 made and 64 finished, which it gives to no refusal or trap
abbrev pub step_number : StepAnswer → ℕ
step_number Made = 0
step_number Finished = 64
step_number (Trap number) = number
step_number (Refused number) = number

-- what that number tells of a step: the refusal's where there is one, else 0 made, 64 finished, or a trap's
pub record StepNumbered (refused : ℕ) (answer : StepAnswer) : Type 0 where
  pub refusal : (refused ≡ 0 → ⊥) → step_number answer ≡ refused
  pub made : step_number answer ≡ 0 → answer ≡ Made
  pub finished : step_number answer ≡ 64 → answer ≡ Finished
  pub trap : refused ≡ 0 → (step_number answer ≡ 0 → ⊥) → (step_number answer ≡ 64 → ⊥) → (21 ≤ step_number answer) × (step_number answer ≤ 25)
