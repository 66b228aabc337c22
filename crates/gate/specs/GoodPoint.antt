-- A good point: where steps and runs of an accepted image can go on from, with the book of calls that they go on with. Depths are those at starts.
use Rattle.std.specs.Prelude.{ℕ, ◌+◌, ◌-◌, ◌<◌, ◌≤◌, ◌≡◌, true, false, List, [], ◌∷◌, get_or, Ok}
use Rattle.std.proofs.Math.Option.{some}
use Rattle.numbers.specs.Words.{word_at}
use Rattle.stm8.specs.Effects.{call_target, effect}
use Rattle.stm8.specs.declared.Instruction.{Instruction}
use Rattle.image.specs.declared.Limits.{Limits}
use Rattle.image.specs.Image.{base_of, count_of, start_of, main_of}
use Rattle.execution.specs.Performing.{made}
use Rattle.machine.specs.Step.{stepped}
use Rattle.execution.specs.declared.Registers.{Registers}
use Rattle.execution.specs.declared.StepAnswer.TheVariants.{Made}
use Rattle.code.specs.Code.{instruction_at, instruction_in, Start}
use Rattle.gate.specs.History.{Book, Point, flow, fed_to}
use Rattle.gate.specs.Guarantee.{AtStart}

-- The callers of routine r, whose return address lies at f + 1 and f + 2, and the book of calls that goes with them, the last call's address first.
pub data Callers (image : List ℕ) (limits : Limits) (depth : ℕ → ℕ) : ℕ → ℕ → List ℕ → Type 0 where
  -- it is the address after a call to r; past the caller's depth there lies the caller's own return address, and so on
  called : {r c o n f : ℕ} {i : Instruction} {book : List ℕ} → c < count_of image → Start image c o → instruction_at image c o ≡ Ok (i, n) →
      call_target (base_of image + (o + n)) (effect i).flow ≡ some (base_of image + start_of image r) →
      Callers image limits depth c (f + 2 + depth o) book → Callers image limits depth r f ((base_of image + (o + n)) ∷ book)
  -- down to main, whose return bytes are at the very top
  main : {r f : ℕ} → r ≡ main_of image → f + 2 ≡ limits.stack.high → Callers image limits depth r f []

-- What they ask of memory: the stack holds each return address, and 0000 for main.
abbrev pub Held : {image : List ℕ} {limits : Limits} {depth : ℕ → ℕ} → List ℕ → {r f : ℕ} {book : List ℕ} →
    Callers image limits depth r f book → Type 0
Held {image} memory (called {o = o} {n = n} {f = f} listed start found calls above) =
    (word_at memory (f + 1) ≡ base_of image + (o + n)) × Held memory above
Held memory (main {f = f} is top) = word_at memory (f + 1) ≡ 0

-- PC 0 is good if SP equals stack high. Main has returned, and the book is empty.
pub record AtEnd (limits : Limits) (regs : Registers) (book : Book) : Type 0 where
  pub here : regs.pc ≡ 0
  pub top : regs.sp ≡ limits.stack.high
  pub empty : book.addresses ≡ []
  pub returned : book.returned ≡ true

-- Otherwise PC must be a start; past that routine's depth lies its return address. Main has not returned.
pub record Running (image : List ℕ) (limits : Limits) (depth : ℕ → ℕ) (regs : Registers) (book : Book) : Type 0 where
  pub at : AtStart image regs.pc
  pub callers : Callers image limits depth at.routine (regs.sp + depth at.offset) book.addresses
  pub unreturned : book.returned ≡ false

pub data GoodPoint (image : List ℕ) (limits : Limits) (depth : ℕ → ℕ) (p : Point) : Type 0 where
  finished : AtEnd limits p.state.registers p.book → GoodPoint image limits depth p
  running : (y : Running image limits depth p.state.registers p.book) → Held p.state.memory y.callers → GoodPoint image limits depth p

-- two memories hold the same bytes from above f to stack high
abbrev pub Agree : Limits → ℕ → List ℕ → List ℕ → Type 0
Agree limits f before after = (address : ℕ) → f < address → address ≤ limits.stack.high → get_or after address 0 ≡ get_or before address 0

abbrev pub with_memory : Point → List ℕ → Point
with_memory p memory = record { state = record { registers = p.state.registers; memory = memory }; book = p.book }

-- A step is made, of the instruction in the code at PC, and that is what the book is fed.
pub record MakesStep (image : List ℕ) (limits : Limits) (p : Point) : Type 0 where
  pub instruction : Instruction
  pub size : ℕ
  pub found : instruction_in image (p.state.registers.pc - base_of image) ≡ Ok (instruction, size)
  pub is : stepped image limits p.state.registers p.state.memory ≡
      made image p.state.registers p.state.memory (p.state.registers.pc + size) instruction
  pub answer : (stepped image limits p.state.registers p.state.memory).0.answer ≡ Made
  pub feeds : fed_to (record { image = image; limits = limits }) p.state ≡ flow (effect instruction).flow (p.state.registers.pc + size)
