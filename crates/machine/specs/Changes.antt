-- What a made step changes, seen from the effect of its instruction alone: SP, PC and memory. A, X, Y and CC are what the instruction computes.
use Rattle.std.specs.Prelude.{ℕ, ◌+◌, ◌-◌, ◌≡◌, true, ◌⊎◌, List, [], ◌∷◌, length, get_or, Ok}
use Rattle.stm8.specs.Effects.{relative, effect, is_call}
use Rattle.stm8.specs.declared.Flow.{Flow}
use Rattle.stm8.specs.declared.Flow.TheVariants.{Next, Branch, Jump, Call, CallRelative, Return}
use Rattle.stm8.specs.declared.Effect.{Effect}
use Rattle.stm8.specs.declared.Instruction.{Instruction}
use Rattle.image.specs.Image.{base_of}
use Rattle.code.specs.Code.{instruction_in}
use Rattle.storage.specs.Reading.{read_word}
use Rattle.storage.specs.Storing.{stored_at}
use Rattle.execution.specs.declared.Registers.{Registers}

-- an address is one of a list
abbrev pub Among : ℕ → List ℕ → Type 0
Among address [] = ⊥
Among address (a ∷ more) = (address ≡ a) ⊎ Among address more

-- where PC is after a flow: a return goes to the word that is popped, anything else goes by the next address
abbrev pub GoesTo : ℕ → ℕ → Flow → ℕ → Type 0
GoesTo next popped Next pc = pc ≡ next
GoesTo next popped (Branch n) pc = (pc ≡ relative next n) ⊎ (pc ≡ next)
GoesTo next popped (Jump n) pc = pc ≡ relative next n
GoesTo next popped (Call a) pc = pc ≡ a
GoesTo next popped (CallRelative n) pc = pc ≡ relative next n
GoesTo next popped Return pc = pc ≡ popped

-- an effect, from registers and memory to those after it; next is the address after the instruction
pub record Changes (image : List ℕ) (next : ℕ) (e : Effect) (regs : Registers) (memory : List ℕ) (regs' : Registers) (memory' : List ℕ) : Type 0 where
  -- SP + pops - pushes, with nothing cut off
  pub sp : regs'.sp + e.pushes ≡ regs.sp + e.pops
  pub pc : GoesTo next (read_word image memory (regs.sp + 1)) e.flow regs'.pc
  pub size : length memory' ≡ length memory
  -- no byte of memory changes but those that the place stores
  pub bytes : (address : ℕ) → (Among address (stored_at regs.sp regs'.sp e.place) → ⊥) → get_or memory' address 0 ≡ get_or memory address 0
  -- a call pushes the next address
  pub pushed : is_call e.flow ≡ true → read_word image memory' (regs'.sp + 1) ≡ next

-- an instruction stands at PC, and its effect is all that changes beside A, X, Y and CC
pub record MadeStep (image : List ℕ) (regs : Registers) (memory : List ℕ) (regs' : Registers) (memory' : List ℕ) : Type 0 where
  pub instruction : Instruction
  pub size : ℕ
  pub found : instruction_in image (regs.pc - base_of image) ≡ Ok (instruction, size)
  pub changes : Changes image (regs.pc + size) (effect instruction) regs memory regs' memory'
