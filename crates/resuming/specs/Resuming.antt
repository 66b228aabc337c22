-- Resuming: 17, then the whole check, then 34, then 35; else the state runs on.
use Rattle.std.specs.Prelude.{ℕ, ◌+◌, ◌-◌, min, ◌≡◌, List, length}
use Rattle.image.specs.declared.Limits.{Limits}
use Rattle.rules.specs.Verdict as Verdict
use Rattle.acceptance.specs.Check.{checked}
use Rattle.machine.specs.declared.RunAnswer.{RunAnswer}
use Rattle.machine.specs.declared.RunAnswer.TheVariants as Run
use Rattle.machine.specs.Run.{ran}
use Rattle.machine.specs.Cycles.{run_cycles}
use Rattle.gate.specs.Start.{zeros}
use Rattle.saved_state.specs.Sls.{saved_check, state_in}
use Rattle.saved_state.specs.declared.SavedState.{SavedState}
use Rattle.resuming.specs.Good.{Good}
use Rattle.resuming.specs.declared.ResumeAnswer.{ResumeAnswer}
use Rattle.resuming.specs.declared.ResumeAnswer.TheVariants.{Finished, Spent, Refused}
use Rattle.resuming.specs.declared.Resumed.{Resumed}

-- Refused, it returns zeros.
abbrev pub zeros_for : ℕ → ℕ → Resumed
zeros_for number offset = record { answer = Refused number offset; registers = zeros; steps = 0; cycles = 0 }

-- A resumed run is also spent when its total reaches 18,446,744,073,709,551,615, whatever the record's version: so many steps can be made.
abbrev pub ceiling : ℕ
ceiling = 18446744073709551615

unfoldable pub allowance : ℕ → SavedState → ℕ
allowance budget state = min budget (ceiling - state.steps)

-- The answer is the run's, which is finished or spent.
pub data Ends : RunAnswer → ResumeAnswer → Type 0 where
  finished : Ends Run.Finished Finished
  spent : Ends Run.Spent Spent

-- The state runs on, to registers and memory. Its steps are the total; its cycles are those of this part alone.
abbrev pub ran_on : List ℕ → Limits → List ℕ → SavedState → ℕ → ResumeAnswer → Resumed × List ℕ
ran_on image limits memory state budget answer =
    let part = ran (allowance budget state) image limits state.registers memory in (
      record {
        answer = answer;
        registers = part.0.registers;
        steps = state.steps + part.0.steps;
        cycles = run_cycles (allowance budget state) image limits state.registers memory;
      },
      part.1,
    )

-- Of an accepted image, by the marks that the check left: what is answered, and the memory after it.
pub data ResumesAccepted (image : List ℕ) (limits : Limits) (marks memory bytes : List ℕ) (budget : ℕ) : Resumed → List ℕ → Type 0 where
  -- 34, a wrong length, mark or version;
  unreadable : {number : ℕ} → saved_check bytes ≡ number → (number ≡ 0 → ⊥) →
      ResumesAccepted image limits marks memory bytes budget (zeros_for number 0) memory
  -- 35, a record that isn't good;
  not_good : saved_check bytes ≡ 0 → (Good image limits marks (state_in bytes).registers memory → ⊥) →
      ResumesAccepted image limits marks memory bytes budget (zeros_for 35 0) memory
  -- else it runs on.
  resumed : {r : Resumed} {after : List ℕ} → saved_check bytes ≡ 0 → Good image limits marks (state_in bytes).registers memory →
      Ends (ran (allowance budget (state_in bytes)) image limits (state_in bytes).registers memory).0.answer r.answer →
      (r, after) ≡ ran_on image limits memory (state_in bytes) budget r.answer →
      ResumesAccepted image limits marks memory bytes budget r after

-- What is answered, and the marks and the memory after it.
pub data Resumes (image : List ℕ) (limits : Limits) (marks memory bytes : List ℕ) (budget : ℕ) : Resumed → List ℕ → List ℕ → Type 0 where
  -- 17, memory not 32,768 bytes;
  no_memory : (length memory ≡ 32768 → ⊥) → Resumes image limits marks memory bytes budget (zeros_for 17 0) marks memory
  -- 1 to 16, as the check refuses, with its offset, and the marks as it leaves them;
  refused : {number offset : ℕ} {left : List ℕ} → length memory ≡ 32768 → checked image limits marks ≡ (Verdict.Refused number offset, left) →
      Resumes image limits marks memory bytes budget (zeros_for number offset) left memory
  -- else by the record. The marks of the accepting check are kept.
  accepted : {need count : ℕ} {left after : List ℕ} {r : Resumed} → length memory ≡ 32768 →
      checked image limits marks ≡ (Verdict.Accepted need count, left) → ResumesAccepted image limits left memory bytes budget r after →
      Resumes image limits marks memory bytes budget r left after
