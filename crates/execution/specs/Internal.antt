-- What the private functions of the crate ask of each other. No public contract cites it.
use Rattle.std.specs.Prelude.{ℕ, cond, List, eqb, Result, Ok, Err}
use Rattle.stm8.specs.Effects.{effect}
use Rattle.stm8.specs.declared.Effect.{Effect}
use Rattle.stm8.specs.declared.Instruction.{Instruction}
use Rattle.arithmetic.specs.declared.Flagged.{Flagged}
use Rattle.image.specs.declared.Limits.{Limits}
use Rattle.execution.specs.Computing.{computed}
use Rattle.storage.specs.declared.Trap.{Trap}
use Rattle.storage.specs.Traps.{trap_number}
use Rattle.execution.specs.Performing as Performing
use Rattle.execution.specs.Performing.{result, effect_trap, made_by}
use Rattle.execution.specs.declared.Registers.{Registers}
use Rattle.execution.specs.declared.Computed.{Computed}
use Rattle.execution.specs.declared.StepAnswer.TheVariants as StepAnswer
use Rattle.execution.specs.declared.StepAnswer.TheVariants.{Made}
use Rattle.execution.specs.declared.Performed.{Performed}
use Rattle.execution.specs.declared.TimedStep.{TimedStep}

-- a byte, and a word, that touch no flag
abbrev pub byte_keeping_flags : Registers → ℕ → Flagged ℕ
byte_keeping_flags regs value = record { value = value; cc = regs.cc }

abbrev pub word_keeping_flags : Registers → ℕ → Flagged ℕ
word_keeping_flags regs value = record { value = value; cc = regs.cc }

-- a step with its cycles
abbrev pub timed : ℕ → Performing.Result → TimedStep × List ℕ
timed cycles r = (record { stepped = r.0; cycles = cycles }, r.1)

-- an instruction by what it computes and its effect: the effect's trap, or made
unfoldable pub performed_by : List ℕ → Limits → Registers → List ℕ → ℕ → ℕ → Computed → Effect → TimedStep × List ℕ
performed_by image limits regs memory next cycles c e =
    let trap = effect_trap limits regs.sp next e in
    cond (eqb trap 0) (timed cycles (made_by image regs memory next c e)) (timed 0 (result (StepAnswer.Trap trap) regs memory))

unfoldable pub performed_as : List ℕ → Limits → Registers → List ℕ → ℕ → ℕ → Instruction → TimedStep × List ℕ
performed_as image limits regs memory next cycles i =
    performed_by image limits regs memory next cycles (computed image memory regs next i) (effect i)

-- what was computed, with SP and PC
abbrev pub made_with : Computed → ℕ → ℕ → ℕ → Performed
made_with c sp pc cycles = record { registers = record { a = c.a; x = c.x; y = c.y; cc = c.cc; sp = sp; pc = pc }; cycles = cycles }

-- a whole step: a trap changes nothing and costs nothing
abbrev pub timed_as : Registers → Result Performed Trap → TimedStep
timed_as regs (Ok made) = record { stepped = record { answer = Made; registers = made.registers }; cycles = made.cycles }
timed_as regs (Err trap) = record { stepped = record { answer = StepAnswer.Trap (trap_number trap); registers = regs }; cycles = 0 }
