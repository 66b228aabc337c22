-- From a good record a resumption runs on; a good point can be saved, and a record of it says where it stands.
use Prim.Native.Nat.{ℕ, ◌+◌, ◌≤◌}
use mathlib.Core.Path.{◌≡◌, refl, sym, ap, ◌∙◌}
use mathlib.Core.List.{List}
use native.Mathlib.Omega.{arith}
use lib.ListN.{length}
use Rattle.numbers.proofs.Checking.{under_pass}
use Rattle.image.specs.declared.Limits.{Limits}
use Rattle.image.proofs.Measuring.{end_inside}
use Rattle.rules.specs.Verdict as Verdicts
use Rattle.rules.specs.Verdict.{Verdict}
use Rattle.acceptance.specs.Check.{checked}
use Rattle.execution.specs.declared.Registers.{Registers}
use Rattle.machine.specs.Run.{ran}
use Rattle.gate.specs.History.{Point}
use Rattle.gate.specs.GoodPoint.{GoodPoint, finished, running}
use Rattle.gate.proofs.CheckedCode.{CheckedCode}
use Rattle.saved_state.specs.Sls.{saving_number, saved, saved_check, state_in}
use Rattle.saved_state.specs.declared.SavedState.{SavedState}
use Rattle.saved_state.proofs.Trips.{written_passes, written_says, saved_reads}
use Rattle.resuming.specs.Good.{Good}
use Rattle.resuming.specs.Resuming.{ceiling, allowance, Ends, ran_on, ResumesAccepted, unreadable, not_good, resumed, Resumes, no_memory, refused, accepted}
use Rattle.resuming.specs.declared.Resumed.{Resumed}
use Rattle.resuming.proofs.Callers.{inside}
use Rattle.resuming.proofs.ResumeNumbers.{not_accepted}
use Rattle.pausing.specs.Pausing.{Standing, RecordOf, newer, older}

-- resuming ran on: its answer is the run's, and what it came to
pub record Came (image : List ℕ) (limits : Limits) (memory : List ℕ) (state : SavedState) (budget : ℕ) (r : Resumed) (after : List ℕ) : Type 0 where
  pub ends : Ends (ran (allowance budget state) image limits state.registers memory).0.answer r.answer
  pub is : (r, after) ≡ ran_on image limits memory state budget r.answer

module _ {image : List ℕ} {limits : Limits} {memory bytes : List ℕ} {budget : ℕ} where
  accepted_runs : {marks after : List ℕ} {r : Resumed} → saved_check bytes ≡ 0 → Good image limits marks (state_in bytes).registers memory →
      ResumesAccepted image limits marks memory bytes budget r after → Came image limits memory (state_in bytes) budget r after
  accepted_runs passes good (unreadable is some) = absurd (some (sym is ∙ passes))
  accepted_runs passes good (not_good read bad) = absurd (bad good)
  accepted_runs passes good (resumed read again ends is) = record { ends = ends; is = is }

  pub good_runs : {marks marks' after : List ℕ} {r : Resumed} {need count : ℕ} → length memory ≡ 32768 → (checked image limits marks).0 ≡ Verdicts.Accepted need count →
      saved_check bytes ≡ 0 → Good image limits (checked image limits marks).1 (state_in bytes).registers memory →
      Resumes image limits marks memory bytes budget r marks' after → Came image limits memory (state_in bytes) budget r after
  good_runs size verdict passes good (no_memory other) = absurd (other size)
  good_runs size verdict passes good (refused same check) = absurd (not_accepted (sym (ap (λ (x : Verdict × List ℕ). x.0) check) ∙ verdict))
  good_runs size verdict passes good (accepted same check rest) =
      let left = ap (λ (x : Verdict × List ℕ). x.1) check in accepted_runs passes (rw left at good) rest

-- a good point has a PC of 16 bits
module _ (image : List ℕ) (limits : Limits) (depth need : ℕ → ℕ) (code : CheckedCode image limits depth need) where
  pub good_pc : (p : Point) → GoodPoint image limits depth p → p.state.registers.pc ≤ 0xFFFF
  good_pc p (finished y) = omega (arith, y.here)
  good_pc p (running y held) =
      let at = y.at in
      let h = inside image limits depth need code at.listed at.start in
      omega (arith, at.here, end_inside image at.routine at.listed, code.layout.top)

-- so it is saved
pub saving_passes : (regs : Registers) (steps : ℕ) → regs.pc ≤ 0xFFFF → (saved regs steps).number ≡ 0
unfolding saved saving_number
saving_passes regs steps low = under_pass 0xFFFF regs.pc 35 low

-- and a record of where a run stands says that, in either version
pub record_says : (s : Standing) → s.registers.pc ≤ 0xFFFF → s.steps ≤ ceiling → {bytes : List ℕ} → RecordOf s bytes →
    (saved_check bytes ≡ 0) × (state_in bytes ≡ record { registers = s.registers; steps = s.steps })
record_says s low few newer = saved_reads s.registers s.steps (saving_passes s.registers s.steps low) few
record_says s low few (older fits) =
    (written_passes 0x0001 refl s.registers s.steps, written_says 0x0001 s.registers s.steps (omega arith))

-- with an allowance that is the budget, where the ceiling is not met
pub whole_budget : (budget : ℕ) (state : SavedState) → state.steps + budget ≤ ceiling → allowance budget state ≡ budget
unfolding allowance
whole_budget budget state few = omega arith
