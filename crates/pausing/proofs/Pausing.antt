-- Pausing anywhere equals not pausing.
use Prim.Native.Nat.{ℕ, ◌+◌, ◌≤◌}
use mathlib.Core.Path.{◌≡◌, sym, ap, ◌∙◌}
use mathlib.Core.Bool.{cond}
use mathlib.Core.List.{List, [], ◌∷◌}
use native.Mathlib.Nat.{add-zero}
use native.Mathlib.Omega.{arith}
use lib.Dec.{eqb}
use lib.ListN.{length}
use Rattle.numbers.specs.Folds.{total}
use Rattle.numbers.specs.Lists.{Bytes}
use Rattle.numbers.proofs.Checking.{by_test}
use Rattle.image.specs.declared.Limits.{Limits}
use Rattle.image.specs.Image.{size_of}
use Rattle.rules.specs.Rules.{Rules}
use Rattle.rules.specs.Verdict.{Accepted}
use Rattle.acceptance.proofs.Accepting.{accept_complete, accepted_exactly}
use Rattle.machine.specs.Step.{step_refusal}
use Rattle.machine.specs.Run.{ended, no_steps_left, ran}
use Rattle.machine.specs.declared.Ran.{Ran}
use Rattle.machine.specs.declared.RunAnswer.{RunAnswer}
use Rattle.machine.specs.declared.RunAnswer.TheVariants.{Finished, Spent, Refused}
use Rattle.gate.specs.Start.{started, begun, cleared}
use Rattle.gate.specs.History.{Given, Book, Point, empty_book, ran_point}
use Rattle.gate.specs.GoodPoint.{GoodPoint}
use Rattle.gate.proofs.CheckedCode.{CheckedCode}
use Rattle.gate.proofs.CheckedByRules.{rules_checked}
use Rattle.gate.proofs.Starting.{accepted_start, start_tracked}
use Rattle.saved_state.specs.declared.SavedState.{SavedState}
use Rattle.resuming.specs.Good.{point_at}
use Rattle.resuming.specs.Resuming.{ceiling, allowance, Resumes}
use Rattle.resuming.specs.declared.Resumed.{Resumed}
use Rattle.resuming.proofs.GoodRuns.{good_run}
use Rattle.resuming.proofs.RunEndings.{steps_most}
use Rattle.pausing.specs.Pausing.{Standing, came_to, RecordOf, Resumptions, none, again}
use Rattle.pausing.proofs.Depths.{good_marked}
use Rattle.pausing.proofs.Steps.{in_two}
use Rattle.pausing.proofs.Resuming.{Came, good_runs, good_pc, record_says, whole_budget}

-- a run with no budget stays
still : (answer : RunAnswer) (s : Standing) → s ≡ came_to s.steps (ended answer s.registers s.memory)
still answer s = rw (add-zero s.steps)

stays : (image : List ℕ) (limits : Limits) (s : Standing) → s ≡ came_to s.steps (ran 0 image limits s.registers s.memory)
unfolding ran no_steps_left
stays image limits s =
    by_test (λ (r : Ran × List ℕ). s ≡ came_to s.steps r) (eqb (step_refusal image limits s.memory) 0)
    (λ t. still (cond (eqb s.registers.pc 0) Finished Spent) s) (λ t. still (Refused (step_refusal image limits s.memory)) s)

-- what a resumption came to, where the ceiling is not met
came : {image : List ℕ} {limits : Limits} {memory after : List ℕ} {state : SavedState} {budget : ℕ} {r : Resumed} →
    Came image limits memory state budget r after → allowance budget state ≡ budget →
    record { registers = r.registers; steps = r.steps; memory = after } ≡ came_to state.steps (ran budget image limits state.registers memory)
came {image} {limits} {memory} {state = state} {budget = budget} h whole =
    ap (λ (x : Resumed × List ℕ). let s : Standing = record { registers = x.0.registers; steps = x.0.steps; memory = x.1 } in s) h.is ∙
    ap (λ n. came_to state.steps (ran n image limits state.registers memory)) whole

module _ (image : List ℕ) (bytes : Bytes image) (limits : Limits) (depth need : ℕ → ℕ) (rules : Rules image limits depth need) where
  code : CheckedCode image limits depth need
  code = rules_checked image bytes limits depth need rules

  abbrev accepted : Given
  accepted = record { image = image; limits = limits }

  abbrev GoodStanding : Standing → Book → Type 0
  GoodStanding s book = GoodPoint image limits depth (point_at s.registers s.memory book)

  -- one resumption
  resumes_once : {marks bytes marks' memory' : List ℕ} {r : Resumed} (s : Standing) (budget : ℕ) (book : Book) → length s.memory ≡ 32768 → GoodStanding s book →
      s.steps + budget ≤ ceiling → size_of image ≤ length marks → RecordOf s bytes → Resumes image limits marks s.memory bytes budget r marks' memory' →
      record { registers = r.registers; steps = r.steps; memory = memory' } ≡ came_to s.steps (ran budget image limits s.registers s.memory)
  resumes_once {marks} s budget book size good few enough kept resumes =
      let reads = record_says s (good_pc image limits depth need code _ good) (omega arith) kept in
      let accept = accept_complete image limits marks depth need rules enough in
      let marked = good_marked image limits depth need rules marks enough good in
      let runs = good_runs size accept.2 reads.0 (book, rw reads.1 marked) resumes in
      came (rw reads.1 at runs) (whole_budget budget (record { registers = s.registers; steps = s.steps }) few)

  -- and as many as there are
  pub resumptions_join : (budgets : List ℕ) (s end : Standing) (book : Book) → length s.memory ≡ 32768 → GoodStanding s book →
      s.steps + total budgets ≤ ceiling → Resumptions image limits budgets s end →
      end ≡ came_to s.steps (ran (total budgets) image limits s.registers s.memory)
  unfolding total
  resumptions_join [] s end book size good few none = stays image limits s
  resumptions_join (budget ∷ budgets) s end book size good few (again enough kept resumes rest) =
      let p = point_at s.registers s.memory book in
      let first = ran budget image limits s.registers s.memory in
      let after = good_run image limits depth need code budget p size good in
      let once = resumes_once s budget book size good (omega arith) enough kept resumes in
      let most = steps_most budget image limits s.registers s.memory in
      resumptions_join budgets (came_to s.steps first) end (ran_point accepted budget p).book after.1 after.0 (omega arith) (rw once at rest) ∙
      sym (in_two image limits depth need code s.steps budget (total budgets) p size good)

  from_start : (memory : List ℕ) → length memory ≡ 32768 → (a x y cc budget : ℕ) (budgets : List ℕ) (end : Standing) → budget + total budgets ≤ ceiling →
      Resumptions image limits budgets (came_to 0 (ran budget image limits (begun image limits a x y cc) (cleared limits memory))) end →
      end ≡ came_to 0 (ran (budget + total budgets) image limits (begun image limits a x y cc) (cleared limits memory))
  from_start memory size a x y cc budget budgets end few pauses =
      let p : Point = record { state = record { registers = begun image limits a x y cc; memory = cleared limits memory }; book = empty_book } in
      let t = start_tracked image limits depth need code memory size a x y cc in
      let begin = t.kept.size ∙ size in
      let first = ran budget image limits (begun image limits a x y cc) (cleared limits memory) in
      let after = good_run image limits depth need code budget p begin t.good in
      let most = steps_most budget image limits (begun image limits a x y cc) (cleared limits memory) in
      resumptions_join budgets (came_to 0 first) end (ran_point accepted budget p).book after.1 after.0 (omega arith) pauses ∙
      sym (in_two image limits depth need code 0 budget (total budgets) p begin t.good)

-- In a run from the start, with image, limits and memory unchanged, pausing anywhere, once or more, by records of either version, equals not pausing, under
-- the sum of the budgets, in registers, memory and steps: not only where that is itself a budget, but up to the ceiling.
pub pausing_equals : (image : List ℕ) → Bytes image → (limits : Limits) (marks memory : List ℕ) (a x y cc need count : ℕ) →
    (started image limits marks memory a x y cc).started.verdict ≡ Accepted need count →
    (budget : ℕ) (budgets : List ℕ) (end : Standing) → budget + total budgets ≤ ceiling →
    let s = started image limits marks memory a x y cc in
    Resumptions image limits budgets (came_to 0 (ran budget image limits s.started.registers s.memory)) end →
    end ≡ came_to 0 (ran (budget + total budgets) image limits s.started.registers s.memory)
pausing_equals image bytes limits marks memory a x y cc need count accept budget budgets end few pauses =
    let s = accepted_start image limits marks memory a x y cc need count accept in
    let h = (accepted_exactly image limits marks need count).0 s.accepted in
    rw (s.registers, s.cleared_memory)
    (from_start image bytes limits h.depth h.needs h.rules memory s.size a x y cc budget budgets end few (rw (s.registers, s.cleared_memory) at pauses))
