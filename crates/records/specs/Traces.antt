-- Steps made one after the other, and their records given back in the reverse order.
use Rattle.std.specs.Prelude.{ℕ, zero, suc, List, [], ◌∷◌}
use Rattle.numbers.specs.Checks.{first}
use Rattle.image.specs.declared.Limits.{Limits}
use Rattle.execution.specs.declared.Registers.{Registers}
use Rattle.machine.specs.Step.{stepped}
use Rattle.records.specs.Recording.{recorded}
use Rattle.records.specs.Back.{stepped_back}
use Rattle.records.specs.declared.Record.{Record}

-- where n steps come to, whatever each of them answers, and their records, the last step's first
pub record Trace : Type 0 where
  pub registers : Registers
  pub memory : List ℕ
  pub records : List Record

abbrev pub one_more : List ℕ → Limits → Trace → Trace
one_more image limits trace =
    let s = stepped image limits trace.registers trace.memory in
    record {
      registers = s.0.registers;
      memory = s.1;
      records = recorded image limits trace.registers trace.memory ∷ trace.records;
    }

unfoldable pub traced : ℕ → List ℕ → Limits → Registers → List ℕ → Trace
traced zero image limits regs memory = record { registers = regs; memory = memory; records = [] }
traced (suc n) image limits regs memory = one_more image limits (traced n image limits regs memory)

-- records given back one after the other: the registers and the memory at the end, and the first number that is not 0
pub record Undone : Type 0 where
  pub number : ℕ
  pub registers : Registers
  pub memory : List ℕ

unfoldable pub undone : List Record → Registers → List ℕ → Undone
undone [] regs memory = record { number = 0; registers = regs; memory = memory }
undone (r ∷ records) regs memory =
    let b = stepped_back r memory in
    let rest = undone records b.0.registers b.1 in
    record { number = first b.0.number rest.number; registers = rest.registers; memory = rest.memory }
