-- From what a call of the gate answers to the cells that C reads.
use Prim.Native.Nat.{ℕ, ◌<◌}
use mathlib.Core.Path.{◌≡◌, refl, sym, ap, ◌∙◌}
use mathlib.Core.List.{List, [], ◌∷◌}
use native.Mathlib.Nat.{mod-eq_of_lt}
use lib.ListN.{get_or}
use Rattle.image.specs.declared.Limits.{Limits}
use Rattle.rules.specs.Outcome.{values_of}
use Rattle.acceptance.specs.Check.{checked}
use Rattle.rules.specs.Verdict.{Verdict}
use Rattle.machine.specs.Step.{stepped, step_number}
use Rattle.machine.specs.Run.{ran, run_number}
use Rattle.machine.specs.Cycles.{step_cycles, run_cycles}
use Rattle.execution.specs.declared.Registers.{Registers}
use Rattle.execution.specs.declared.Stepped.{Stepped}
use Rattle.machine.specs.declared.Ran.{Ran}
use Rattle.gate.specs.declared.Started.{Started}
use Rattle.records.specs.Recording.{two_cells, recorded}
use Rattle.records.specs.Back.{stepped_back}
use Rattle.records.proofs.GivingBack.{registers_back}
use Rattle.records.specs.declared.Record.{Record}
use Rattle.records.specs.declared.SteppedBack.{SteppedBack}
use Rattle.turns.specs.Turn.{turned}
use Rattle.turns.specs.Values.{values_of as turn_values}
use Rattle.turns.specs.declared.TurnAnswer.{TurnAnswer}
use Rattle.turns.specs.declared.TurnValues.{TurnValues}
use Rattle.gate_c.specs.Cells.{report_cells, registers_in, register_cells, started_by, started_cells, stepped_cells, ran_cells}
use Rattle.resuming.specs.Resuming.{Resumes}
use Rattle.resuming.specs.Values.{resume_number, resume_offset}
use Rattle.resuming.specs.declared.Resumed.{Resumed}
use Rattle.gate_c.specs.Cells.{ResumedInto}
use Rattle.gate_c.specs.Cells.{record_in, record_cells, back_cells}

pub checked_by : (image marks marks' : List ℕ) (limits limits' : Limits) (v : Verdict) (number : ℕ) (report : List ℕ) →
    limits ≡ limits' → checked image limits marks ≡ (v, marks') → number ≡ (values_of v).number → report ≡ report_cells v →
    (number ≡ (values_of (checked image limits' marks).0).number) ×
    ((report ≡ report_cells (checked image limits' marks).0) × (marks' ≡ (checked image limits' marks).1))
checked_by image marks marks' limits limits' v number report same c n r = rw (← same, c) (n, (r, refl))

pub turned_by : (image marks marks' : List ℕ) (limits limits' : Limits) (answer : TurnAnswer) (values : TurnValues) →
    limits ≡ limits' → turned image limits marks ≡ (answer, marks') → values ≡ turn_values answer →
    let t = turned image limits' marks in
    (values.number ≡ (turn_values t.0).number) ×
    ((values.offset ∷ [] ≡ (turn_values t.0).offset ∷ []) × ((values.turn ∷ [] ≡ (turn_values t.0).turn ∷ []) × (marks' ≡ t.1)))
turned_by image marks marks' limits limits' answer values same t v = rw (← same, t, v) (refl, (refl, (refl, refl)))

-- registers of their widths; PC is read by all bits of its cell
pub record Fitting (r : Registers) : Type 0 where
  pub a : r.a < 256
  pub x : r.x < 65536
  pub y : r.y < 65536
  pub cc : r.cc < 256
  pub sp : r.sp < 65536

-- are read back from their cells as they were
pub read_back : (r : Registers) → Fitting r → registers_in (register_cells r) ≡ r
read_back r fit =
    rw (mod-eq_of_lt fit.a, mod-eq_of_lt fit.x, mod-eq_of_lt fit.y, mod-eq_of_lt fit.cc, mod-eq_of_lt fit.sp)

pub started_by_lem : (image marks marks' memory memory' cells : List ℕ) (limits limits' : Limits) (given : Registers) (s : Started)
    (number : ℕ) (report out : List ℕ) → limits ≡ limits' → given ≡ registers_in cells →
    started_by image limits marks memory given ≡ record { started = s; marks = marks'; memory = memory' } →
    number ≡ (values_of s.verdict).number → report ≡ report_cells s.verdict → (out ≡ register_cells s.registers) × (registers_in out ≡ s.registers) →
    (started_cells image limits' marks memory cells ≡ record { number = number; report = report; registers = out; marks = marks'; memory = memory' })
    × (registers_in out ≡ (started_by image limits' marks memory (registers_in cells)).started.registers)
unfolding started_cells
started_by_lem image marks marks' memory memory' cells limits limits' given s number report out same-limits same-registers e n r o =
    let by-cells = rw (same-limits, same-registers) at e in
    (rw (by-cells, n, r, o.0), rw by-cells o.1)

-- and so is a record, whose values are bytes
module _ (r : Record) (registers : List ℕ) (lower upper : ℕ) (own : (registers ≡ register_cells r.registers) × (registers_in registers ≡ r.registers))
    (low : (lower ≡ get_or r.values 0 0) × (lower < 256)) (high : (upper ≡ get_or r.values 1 0) × (upper < 256)) where
  abbrev cells : List ℕ
  cells =
      get_or registers 0 0 ∷ get_or registers 1 0 ∷ get_or registers 2 0 ∷ get_or registers 3 0 ∷ get_or registers 4 0 ∷ get_or registers 5 0 ∷
      r.count ∷ get_or r.addresses 0 0 ∷ lower ∷ get_or r.addresses 1 0 ∷ upper ∷ []

  pub read_record : (cells ≡ record_cells r) ×
      (record_in cells ≡ record { registers = r.registers; count = r.count; addresses = two_cells r.addresses; values = two_cells r.values })
  read_record = (
    rw (low.0, high.0, own.0),
    rw (mod-eq_of_lt low.1, mod-eq_of_lt high.1, low.0, high.0)
        (ap (λ (regs : Registers). record { registers = regs; count = r.count; addresses = two_cells r.addresses; values = two_cells r.values }) own.1),
  )

pub stepped_by : (image memory memory' cells : List ℕ) (limits limits' : Limits) (given : Registers) (s : Stepped) (number cycles : ℕ) (out before : List ℕ)
    (r : Record) → limits ≡ limits' → given ≡ registers_in cells → stepped image limits given memory ≡ (s, memory') →
    cycles ≡ step_cycles image limits given memory → r ≡ recorded image limits given memory →
    number ≡ step_number s.answer → (out ≡ register_cells s.registers) × (registers_in out ≡ s.registers) →
    (before ≡ record_cells r) ×
    (record_in before ≡ record { registers = r.registers; count = r.count; addresses = two_cells r.addresses; values = two_cells r.values }) →
    (stepped_cells image limits' cells memory ≡ record { number = number; registers = out; cycles = cycles ∷ []; before = before; memory = memory' })
    × ((registers_in out ≡ (stepped image limits' (registers_in cells) memory).0.registers)
    × (record_in before ≡ recorded image limits' (registers_in cells) memory))
unfolding stepped_cells recorded
stepped_by image memory memory' cells limits limits' given s number cycles out before r same-limits same-registers e k is n o b =
    let by-cells = rw (same-limits, same-registers) at e in
    let told = rw (same-limits, same-registers) at is in
    (rw (by-cells, n, o.0, b.0, told, rw (same-limits, same-registers) at k), (rw by-cells o.1, rw told at b.1))

pub back_by : (cells memory memory' out : List ℕ) (given : Record) (b : SteppedBack) → given ≡ record_in cells → stepped_back given memory ≡ (b, memory') →
    (out ≡ register_cells b.registers) × (registers_in out ≡ b.registers) →
    (back_cells cells memory ≡ record { number = b.number; registers = out; memory = memory' }) × (registers_in out ≡ registers_in cells)
unfolding back_cells
back_by cells memory memory' out given b is back o =
    let by-cells = rw is at back in
    (rw (by-cells, o.0), o.1 ∙ sym (ap (λ (r : SteppedBack × List ℕ). r.0.registers) by-cells) ∙ registers_back (record_in cells) memory)

pub ran_by : (budget : ℕ) (image memory memory' cells : List ℕ) (limits limits' : Limits) (given : Registers) (r : Ran) (number cycles : ℕ) (out steps : List ℕ) →
    limits ≡ limits' → given ≡ registers_in cells → ran budget image limits given memory ≡ (r, memory') →
    cycles ≡ run_cycles budget image limits given memory →
    number ≡ run_number r.answer → (out ≡ register_cells r.registers) × (registers_in out ≡ r.registers) → steps ≡ r.steps ∷ [] →
    (ran_cells budget image limits' cells memory ≡ record { number = number; registers = out; steps = steps; cycles = cycles ∷ []; memory = memory' })
    × (registers_in out ≡ (ran budget image limits' (registers_in cells) memory).0.registers)
unfolding ran_cells
ran_by budget image memory memory' cells limits limits' given r number cycles out steps same-limits same-registers e k n o s =
    let by-cells = rw (same-limits, same-registers) at e in
    (rw (by-cells, n, o.0, s, rw (same-limits, same-registers) at k), rw by-cells o.1)

pub resumed_into : {image marks marks' memory memory' bytes out : List ℕ} {limits limits' : Limits} {budget number offset : ℕ} {r : Resumed} →
    limits ≡ limits' → Resumes image limits marks memory bytes budget r marks' memory' → number ≡ resume_number r.answer →
    (out ≡ register_cells r.registers) × (registers_in out ≡ r.registers) → offset ≡ resume_offset r.answer →
    ResumedInto image limits' marks memory bytes budget marks' memory'
    (record { number = number; registers = out; steps = r.steps ∷ []; cycles = r.cycles ∷ []; offset = offset ∷ [] })
resumed_into {r = r} same resumes number_is registers-are offset-is =
    record {
      answer = r;
      resumes = rw same at resumes;
      are = rw (number_is, registers-are.0, offset-is);
      read = registers-are.1;
    }
