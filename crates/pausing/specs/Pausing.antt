-- What is claimed of resuming: where it goes on from, and runs that are paused, saved and resumed, once or more.
use Rattle.std.specs.Prelude.{ℕ, ◌+◌, ◌≤◌, ◌≡◌, List, [], ◌∷◌, length}
use Rattle.image.specs.declared.Limits.{Limits}
use Rattle.image.specs.Image.{size_of}
use Rattle.rules.specs.Verdict.{Accepted}
use Rattle.acceptance.specs.Check.{checked}
use Rattle.acceptance.specs.Passed.{depth_in}
use Rattle.execution.specs.declared.Registers.{Registers}
use Rattle.machine.specs.declared.Ran.{Ran}
use Rattle.gate.specs.History.{Book, Request, run, point_of, history}
use Rattle.gate.specs.Guarantee.{All, Allowed, Holds}
use Rattle.gate.specs.GoodPoint.{GoodPoint}
use Rattle.saved_state.specs.Sls.{state_bytes, saved, saved_check, state_in}
use Rattle.resuming.specs.declared.ResumeAnswer.{ResumeAnswer}
use Rattle.resuming.specs.declared.ResumeAnswer.TheVariants.{Finished, Spent, Refused}
use Rattle.resuming.specs.declared.Resumed.{Resumed}
use Rattle.resuming.specs.Good.{point_at, Good}
use Rattle.resuming.specs.Resuming.{allowance, Resumes}

-- resuming is not refused
abbrev pub RunsOn : ResumeAnswer → Type 0
RunsOn Finished = Unit {0}
RunsOn Spent = Unit {0}
RunsOn (Refused number offset) = ⊥

-- registers and steps can be saved, and resumed from as they are
pub record Resumable (image : List ℕ) (limits : Limits) (marks : List ℕ) (regs : Registers) (steps : ℕ) (memory : List ℕ) : Type 0 where
  pub saves : (saved regs steps).number ≡ 0
  pub reads : saved_check (saved regs steps).bytes ≡ 0
  pub says : state_in (saved regs steps).bytes ≡ record { registers = regs; steps = steps }
  pub good : Good image limits marks regs memory

-- What holds from a good record: its lists of steps and runs begin at the record's registers and that memory, which counts as the memory before the start,
-- with the one book that goes with them. The resumed run is a run of such a list.
pub record FromRecord (image : List ℕ) (limits : Limits) (marks memory bytes : List ℕ) (budget : ℕ) (r : Resumed) (after : List ℕ) : Type 0 where
  pub need : ℕ
  pub count : ℕ
  pub accepted : (checked image limits marks).0 ≡ Accepted need count
  pub book : Book
  pub good : GoodPoint image limits (depth_in (checked image limits marks).1) (point_at (state_in bytes).registers memory book)
  pub holds : (calls : List Request) → All (Allowed (record { image = image; limits = limits })) calls →
      All (Holds image limits need memory) (history calls (point_at (state_in bytes).registers memory book))
  pub run_is : record { registers = r.registers; memory = after } ≡
      (point_of (run (record { image = image; limits = limits }) (allowance budget (state_in bytes))) (point_at (state_in bytes).registers memory book)).state

-- where a run stands: registers, the steps made so far, and memory
pub record Standing : Type 0 where
  pub registers : Registers
  pub steps : ℕ
  pub memory : List ℕ

-- where a run came to, after so many steps before it
abbrev pub came_to : ℕ → Ran × List ℕ → Standing
came_to steps r = record { registers = r.0.registers; steps = steps + r.0.steps; memory = r.1 }

-- a record of where a run stands, in either version: as it is saved, or as version 0001 has it where its 32 bits hold the steps
pub data RecordOf (s : Standing) : List ℕ → Type 0 where
  newer : RecordOf s (saved s.registers s.steps).bytes
  older : s.steps ≤ 0xFFFFFFFF → RecordOf s (state_bytes 0x0001 s.registers s.steps)

-- From standing to standing, a budget for each resumption: a record of it is resumed, with the image, the limits and the memory unchanged and marks enough.
pub data Resumptions (image : List ℕ) (limits : Limits) : List ℕ → Standing → Standing → Type 0 where
  none : {s : Standing} → Resumptions image limits [] s s
  again : {budget : ℕ} {budgets marks bytes marks' memory' : List ℕ} {r : Resumed} {s end : Standing} → size_of image ≤ length marks → RecordOf s bytes →
      Resumes image limits marks s.memory bytes budget r marks' memory' →
      Resumptions image limits budgets (record { registers = r.registers; steps = r.steps; memory = memory' }) end →
      Resumptions image limits (budget ∷ budgets) s end
