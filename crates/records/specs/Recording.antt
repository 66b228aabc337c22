-- The record of a step: the registers before it and the bytes of memory that it overwrote.
use Rattle.std.specs.Prelude.{ℕ, ◌-◌, List, [], ◌∷◌, map, length, get_or, Ok, Err}
use Rattle.stm8.specs.Decoding.{Decoded}
use Rattle.stm8.specs.Effects.{effect}
use Rattle.image.specs.declared.Limits.{Limits}
use Rattle.image.specs.Image.{base_of}
use Rattle.code.specs.Code.{instruction_in}
use Rattle.storage.specs.Storing.{stored_at}
use Rattle.execution.specs.Performing.{sp_after}
use Rattle.execution.specs.declared.Registers.{Registers}
use Rattle.execution.specs.declared.StepAnswer.{StepAnswer}
use Rattle.execution.specs.declared.StepAnswer.TheVariants.{Made, Finished, Trap, Refused}
use Rattle.machine.specs.Step.{stepped}
use Rattle.records.specs.declared.Record.{Record}

-- two cells with the numbers of a list; one that is not used is 0
abbrev pub two_cells : List ℕ → List ℕ
two_cells numbers = get_or numbers 0 0 ∷ get_or numbers 1 0 ∷ []

-- a record of registers, and of what memory holds at addresses, two at most
abbrev pub record_of : Registers → List ℕ → List ℕ → Record
record_of regs memory addresses =
    record {
      registers = regs;
      count = length addresses;
      addresses = two_cells addresses;
      values = two_cells (map (λ a. get_or memory a 0) addresses);
    }

-- where what stands at PC stores, lower address first, by its effect
abbrev pub stored_by : ℕ → Decoded → List ℕ
stored_by sp (Ok (i, n)) = stored_at sp (sp_after sp (effect i)) (effect i).place
stored_by sp (Err e) = []

-- a step that is not made overwrites nothing
abbrev pub overwrites : StepAnswer → List ℕ → List ℕ
overwrites Made addresses = addresses
overwrites Finished addresses = []
overwrites (Trap number) addresses = []
overwrites (Refused number) addresses = []

-- where a step overwrites memory: every byte that it stores is listed, changed or not
unfoldable pub overwritten : List ℕ → Limits → Registers → List ℕ → List ℕ
overwritten image limits regs memory =
    overwrites (stepped image limits regs memory).0.answer (stored_by regs.sp (instruction_in image (regs.pc - base_of image)))

-- its record: the registers before it, and what those bytes held before it
unfoldable pub recorded : List ℕ → Limits → Registers → List ℕ → Record
recorded image limits regs memory = record_of regs memory (overwritten image limits regs memory)
