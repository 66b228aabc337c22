-- What stands in the cells of a C caller's arrays.
use Rattle.std.specs.Prelude.{ℕ, ◌+◌, ◌%◌, ◌≡◌, List, [], ◌∷◌, ◌++◌, length, get_or, drop, replicate, Ok, Err}
use Rattle.image.specs.declared.Area.{Area}
use Rattle.image.specs.declared.Limits.{Limits}
use Rattle.rules.specs.Outcome.{values_of}
use Rattle.rules.specs.Verdict.{Verdict}
use Rattle.machine.specs.Step.{stepped, step_number}
use Rattle.machine.specs.Run.{ran, run_number}
use Rattle.machine.specs.Cycles.{step_cycles, run_cycles}
use Rattle.records.specs.Recording.{recorded}
use Rattle.records.specs.Back.{stepped_back}
use Rattle.records.specs.declared.Record.{Record}
use Rattle.gate.specs.Start.{Result, started}
use Rattle.resuming.specs.Resuming.{Resumes}
use Rattle.resuming.specs.Values.{resume_number, resume_offset}
use Rattle.resuming.specs.declared.Resumed.{Resumed}
use Rattle.execution.specs.declared.Registers.{Registers}
use Rattle.stm8.specs.Decoding.{Decoded}
use Rattle.stm8.specs.declared.Instruction.{Instruction}
use Rattle.cycles.specs.Timed.{cycles_of}
use Rattle.disassembly.specs.Text.{text}

-- limits: low and high of the grant, of the stack and of the second grant
abbrev pub area_in : List ℕ → ℕ → Area
area_in cells at = record { low = get_or cells at 0; high = get_or cells (at + 1) 0 }

abbrev pub limits_in : List ℕ → Limits
limits_in cells = record { grant = area_in cells 0; stack = area_in cells 2; second = area_in cells 4 }

-- a report: offset, need and count
abbrev pub report_cells : Verdict → List ℕ
report_cells v = (values_of v).offset ∷ (values_of v).need ∷ (values_of v).count ∷ []

-- A, X, Y, CC, SP and PC, each by as many low bits as the register has (PC by all 32)
abbrev pub registers_in : List ℕ → Registers
registers_in cells =
    record {
      a = get_or cells 0 0 % 256;
      x = get_or cells 1 0 % 65536;
      y = get_or cells 2 0 % 65536;
      cc = get_or cells 3 0 % 256;
      sp = get_or cells 4 0 % 65536;
      pc = get_or cells 5 0;
    }

abbrev pub register_cells : Registers → List ℕ
register_cells r = r.a ∷ r.x ∷ r.y ∷ r.cc ∷ r.sp ∷ r.pc ∷ []

-- a record: the registers, then how many bytes, and the address and the value of each; a value by its low 8 bits, count and addresses whole
abbrev pub record_in : List ℕ → Record
record_in cells =
    record {
      registers = registers_in cells;
      count = get_or cells 6 0;
      addresses = get_or cells 7 0 ∷ get_or cells 9 0 ∷ [];
      values = get_or cells 8 0 % 256 ∷ get_or cells 10 0 % 256 ∷ [];
    }

abbrev pub record_cells : Record → List ℕ
record_cells r =
    register_cells r.registers ++
    r.count ∷ get_or r.addresses 0 0 ∷ get_or r.values 0 0 ∷ get_or r.addresses 1 0 ∷ get_or r.values 1 0 ∷ []

-- the length of what was decoded, and its text at an address, with 0 in every cell after it
abbrev pub decoded_length : Decoded → ℕ
decoded_length (Ok (i, n)) = n
decoded_length (Err e) = 0

abbrev pub instruction_text : ℕ → Instruction → List ℕ
instruction_text address i = text address i ++ drop (length (text address i)) (replicate 24 0)

abbrev pub text_cells : ℕ → Decoded → List ℕ
text_cells address (Ok (i, n)) = instruction_text address i
text_cells address (Err e) = replicate 24 0

-- its cycles, not taken and taken
abbrev pub cycle_cells : Decoded → List ℕ
cycle_cells d = (cycles_of d).untaken ∷ (cycles_of d).taken ∷ []

-- what a call answers, and every cell that it may write
pub record StartCells : Type 0 where
  pub number : ℕ
  pub report : List ℕ
  pub registers : List ℕ
  pub marks : List ℕ
  pub memory : List ℕ

-- starting, with the caller's A, X, Y and CC
abbrev pub started_by : List ℕ → Limits → List ℕ → List ℕ → Registers → Result
started_by image limits marks memory given = started image limits marks memory given.a given.x given.y given.cc

unfoldable pub started_cells : List ℕ → Limits → List ℕ → List ℕ → List ℕ → StartCells
started_cells image limits marks memory cells =
    let s = started_by image limits marks memory (registers_in cells) in
    record {
      number = (values_of s.started.verdict).number;
      report = report_cells s.started.verdict;
      registers = register_cells s.started.registers;
      marks = s.marks;
      memory = s.memory;
    }

pub record StepCells : Type 0 where
  pub number : ℕ
  pub registers : List ℕ
  pub cycles : List ℕ
  pub before : List ℕ
  pub memory : List ℕ

unfoldable pub stepped_cells : List ℕ → Limits → List ℕ → List ℕ → StepCells
stepped_cells image limits cells memory =
    let s = stepped image limits (registers_in cells) memory in
    record {
      number = step_number s.0.answer;
      registers = register_cells s.0.registers;
      cycles = step_cycles image limits (registers_in cells) memory ∷ [];
      before = record_cells (recorded image limits (registers_in cells) memory);
      memory = s.1;
    }

pub record BackCells : Type 0 where
  pub number : ℕ
  pub registers : List ℕ
  pub memory : List ℕ

unfoldable pub back_cells : List ℕ → List ℕ → BackCells
back_cells cells memory =
    let b = stepped_back (record_in cells) memory in
    record { number = b.0.number; registers = register_cells b.0.registers; memory = b.1 }

pub record RunCells : Type 0 where
  pub number : ℕ
  pub registers : List ℕ
  pub steps : List ℕ
  pub cycles : List ℕ
  pub memory : List ℕ

unfoldable pub ran_cells : ℕ → List ℕ → Limits → List ℕ → List ℕ → RunCells
ran_cells budget image limits cells memory =
    let r = ran budget image limits (registers_in cells) memory in
    record {
      number = run_number r.0.answer;
      registers = register_cells r.0.registers;
      steps = r.0.steps ∷ [];
      cycles = run_cycles budget image limits (registers_in cells) memory ∷ [];
      memory = r.1;
    }

pub record ResumeCells : Type 0 where
  pub number : ℕ
  pub registers : List ℕ
  pub steps : List ℕ
  pub cycles : List ℕ
  pub offset : List ℕ

abbrev pub resume_cells : Resumed → ResumeCells
resume_cells r =
    record {
      number = resume_number r.answer;
      registers = register_cells r.registers;
      steps = r.steps ∷ [];
      cycles = r.cycles ∷ [];
      offset = resume_offset r.answer ∷ [];
    }

-- resuming into cells, from which the registers are read back as they were
pub record ResumedInto (image : List ℕ) (limits : Limits) (marks memory bytes : List ℕ) (budget : ℕ) (marks' memory' : List ℕ) (cells : ResumeCells) :
    Type 0 where
  pub answer : Resumed
  pub resumes : Resumes image limits marks memory bytes budget answer marks' memory'
  pub are : cells ≡ resume_cells answer
  pub read : registers_in cells.registers ≡ answer.registers
