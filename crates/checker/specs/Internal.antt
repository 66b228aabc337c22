-- What the private functions of the check ask of each other. No public contract cites it.
use Rattle.std.specs.Prelude.{Ok, Err, ℕ, ◌+◌, ◌-◌, ◌*◌, ◌≤◌, ◌<◌, ◌≡◌, List, ◌++◌, length, get_or, drop, replicate, Result, MatchResult}
use Rattle.image.specs.Image.{count_of, size_of}
use Rattle.image.specs.declared.Limits.{Limits}
use Rattle.rules.specs.Refusal.{RoutineRefusal}
use Rattle.rules.specs.Outcome.{Outcome}
use Rattle.rules.specs.Verdict.{Verdict, Accepted, Refused}
use Rattle.control_flow.specs.declared.Refusal.{Refusal}
use Rattle.acceptance.specs.Passed.{need_in, RoutinesPassed}
use Rattle.decode_pass.specs.Pass.{NoStarts}
use Rattle.checker.specs.declared.sweep.Sweep.{Sweep}
use Rattle.checker.specs.declared.sweep.Workspace.{Workspace}

-- what a routine is checked with: from an offset on nothing is a start yet and no depth is known
pub record Clean (from : ℕ) (work : Workspace) : Type 0 where
  pub no_starts : NoStarts from work.cells
  pub depths_cells : length work.trail.depths ≡ 4096
  pub slots : length work.trail.stack ≡ 4096
  pub no_depths : (o : ℕ) → from ≤ o → get_or work.trail.depths o 0 ≡ 0

-- a need is at most 257 for each routine up to its own: 255 for the depth at each call, and 2 for the return address
abbrev pub NeedsBelow : List ℕ → ℕ → Type 0
NeedsBelow needs index = (k : ℕ) → need_in needs k ≤ 257 * index

-- what the sweep finds: all routines pass, or one is refused and those before it pass
pub data Swept (image : List ℕ) (limits : Limits) (marks : List ℕ) : Result Sweep Refusal → Type 0 where
  ended : {s : Sweep} → RoutinesPassed image limits (count_of image) s.needs marks s.count → Swept image limits marks (Ok s)
  stopped : {r : Refusal} {index count : ℕ} {needs given : List ℕ} → index < count_of image → RoutinesPassed image limits index needs given count →
      RoutineRefusal image limits index r.number r.at → Swept image limits marks (Err r)

-- its numbers fit what the verdict holds
abbrev pub Small : Result Sweep Refusal → Type 0
Small swept = MatchResult swept (λ s. (s.count ≤ 4096) × NeedsBelow s.needs 32) (λ r. r.at ≤ 4096)

-- the need to report: 2 + the last routine's
abbrev pub last_need : List ℕ → ℕ → ℕ
last_need needs count = need_in needs (count - 1) + 2

-- what is said of it; 16, stack area below reported need, comes last
pub data VerdictOf (limits : Limits) (count : ℕ) : Result Sweep Refusal → Verdict → Type 0 where
  refusing : {r : Refusal} → VerdictOf limits count (Err r) (Refused r.number r.at)
  narrow : {s : Sweep} → limits.stack.high + 1 < limits.stack.low + last_need s.needs count → VerdictOf limits count (Ok s) (Refused 16 0)
  accepting : {s : Sweep} → limits.stack.low + last_need s.needs count ≤ limits.stack.high + 1 →
      VerdictOf limits count (Ok s) (Accepted (last_need s.needs count) s.count)

-- after refusals 6 to 16 all code marks are 0
abbrev pub code_marks : Verdict → List ℕ → List ℕ
code_marks (Ok accepted) marks = marks
code_marks (Err refused) marks = replicate (length marks) 0

-- The outcome for a valid image, whose code marks end so: cells past the code never change.
pub record CodeOutcome (image : List ℕ) (limits : Limits) (v : Verdict) (marks : List ℕ) : Type 0 where
  pub whole : (before : List ℕ) → size_of image ≤ length before → Outcome image limits before v (marks ++ drop (size_of image) before)
