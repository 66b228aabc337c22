-- What an instruction does: its trap, or what it computes put in place and what its effect moves.
use Rattle.std.specs.Prelude.{ℕ, ◌+◌, ◌-◌, Bool, cond, List, [], ◌∷◌, eqb}
use Rattle.numbers.specs.Folds.{first_in}
use Rattle.stm8.specs.Effects.{relative, effect}
use Rattle.stm8.specs.declared.Flow.{Flow}
use Rattle.stm8.specs.declared.Flow.TheVariants.{Next, Branch, Jump, Call, CallRelative, Return}
use Rattle.stm8.specs.declared.Effect.{Effect}
use Rattle.stm8.specs.declared.Instruction.{Instruction}
use Rattle.image.specs.declared.Limits.{Limits}
use Rattle.storage.specs.Reading.{read_word}
use Rattle.storage.specs.Storing.{move_trap, store_trap, call_trap, stored_at, memory_after}
use Rattle.execution.specs.Computing.{computed}
use Rattle.execution.specs.declared.Registers.{Registers}
use Rattle.execution.specs.declared.Computed.{Computed}
use Rattle.execution.specs.declared.StepAnswer.{StepAnswer}
use Rattle.execution.specs.declared.StepAnswer.TheVariants.{Made, Trap}
use Rattle.execution.specs.declared.Stepped.{Stepped}

-- what a step answers, with the registers and the memory after it
abbrev pub Result : Type 0
Result = Stepped × List ℕ

abbrev pub result : StepAnswer → Registers → List ℕ → Result
result answer regs memory = (record { answer = answer; registers = regs }, memory)

unfoldable pub effect_trap : Limits → ℕ → ℕ → Effect → ℕ
effect_trap limits sp next e = first_in (move_trap limits sp e ∷ store_trap limits sp e.place ∷ call_trap next e.flow ∷ [])

-- SP after an instruction
abbrev pub sp_after : ℕ → Effect → ℕ
sp_after sp e = sp + e.pops - e.pushes

-- PC after it: relative jumps and calls from the next address, RET to the word that it pops
unfoldable pub pc_after : List ℕ → List ℕ → ℕ → ℕ → Bool → Flow → ℕ
pc_after image memory sp next taken Next = next
pc_after image memory sp next taken (Branch n) = cond taken (relative next n) next
pc_after image memory sp next taken (Jump n) = relative next n
pc_after image memory sp next taken (Call a) = a
pc_after image memory sp next taken (CallRelative n) = relative next n
pc_after image memory sp next taken Return = read_word image memory (sp + 1)

abbrev pub registers_after : List ℕ → List ℕ → Registers → ℕ → Computed → Effect → Registers
registers_after image memory regs next c e =
    record {
      a = c.a;
      x = c.x;
      y = c.y;
      cc = c.cc;
      sp = sp_after regs.sp e;
      pc = pc_after image memory regs.sp next c.taken e.flow;
    }

-- an instruction that no trap stops, by what it computes and its effect
abbrev pub made_by : List ℕ → Registers → List ℕ → ℕ → Computed → Effect → Result
made_by image regs memory next c e =
    result Made (registers_after image memory regs next c e) (memory_after memory (stored_at regs.sp (sp_after regs.sp e) e.place) c.stored)

unfoldable pub made : List ℕ → Registers → List ℕ → ℕ → Instruction → Result
made image regs memory next i = made_by image regs memory next (computed image memory regs next i) (effect i)

-- an instruction with the address after it: its effect's trap, which changes nothing, or made
unfoldable pub performed : List ℕ → Limits → Registers → List ℕ → ℕ → Instruction → Result
performed image limits regs memory next i =
    let trap = effect_trap limits regs.sp next (effect i) in
    cond (eqb trap 0) (made image regs memory next i) (result (Trap trap) regs memory)
