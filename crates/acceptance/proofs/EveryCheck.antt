-- What holds of every check: the numbers and offsets of refusals, and the marks that each leaves.
use Prim.Native.Nat.{ℕ, ◌≤◌}
use mathlib.Core.Path.{◌≡◌}
use mathlib.Core.Logic.{◌↔◌}
use mathlib.Core.List.{List}
use lib.ListN.{length}
use Rattle.image.specs.declared.Limits.{Limits}
use Rattle.image.specs.Image.{size_of}
use Rattle.rules.specs.Acceptance.{RefusedMarks, RefusedAs, PastCode}
use Rattle.rules.specs.Outcome.{VerdictNumbered}
use Rattle.rules.specs.Verdict.{Refused}
use Rattle.rules.proofs.OneOutcome as Outcomes
use Rattle.rules.proofs.EveryOutcome as Outcome
use Rattle.acceptance.specs.Check.{checked}
use Rattle.acceptance.proofs.CheckFunction.{checked_outcome}

module _ (image : List ℕ) (limits : Limits) (marks : List ℕ) where
  pub refused_marks : {number offset : ℕ} → (checked image limits marks).0 ≡ Refused number offset →
      RefusedMarks image marks (checked image limits marks).1 number
  refused_marks e = Outcome.refused_marks (rw e at (checked_outcome image limits marks))

  pub refused_as : {number offset : ℕ} → (checked image limits marks).0 ≡ Refused number offset → RefusedAs image number offset
  refused_as e = Outcome.refused_as (rw e at (checked_outcome image limits marks))

  pub verdict_numbered : VerdictNumbered 16 (checked image limits marks).0
  verdict_numbered = Outcome.verdict_numbered (checked_outcome image limits marks)

  pub past_code : PastCode image marks (checked image limits marks).1
  past_code = Outcome.past_code (checked_outcome image limits marks)

pub same_verdict : (image : List ℕ) (limits : Limits) (marks marks' : List ℕ) → (size_of image ≤ length marks) ↔ (size_of image ≤ length marks') →
    (checked image limits marks).0 ≡ (checked image limits marks').0
same_verdict image limits marks marks' same =
    Outcomes.same_verdict same (checked_outcome image limits marks) (checked_outcome image limits marks')
