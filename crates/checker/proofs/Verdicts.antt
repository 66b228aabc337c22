-- From the sweep's last state to the outcome of the check.
use Prim.Native.Nat.{ℕ, ◌≤◌}
use mathlib.Core.Path.{◌≡◌, refl, ap, ◌∙◌}
use mathlib.Core.List.{List, ◌++◌}
use native.Mathlib.Omega.{arith}
use lib.ListN.{length, drop}
use Rattle.image.specs.Image.{count_of, main_of, size_of, layout_of}
use Rattle.image.specs.Validation.{validated}
use Rattle.image.specs.declared.Limits.{Limits}
use Rattle.image.specs.declared.Layout.{Layout}
use Rattle.image.specs.Validated.{Valid}
use Rattle.image.proofs.Layouts.{count_is}
use Rattle.image.proofs.Validity.{rules_valid}
use Rattle.rules.specs.Rules.{reported_need}
use Rattle.rules.specs.Outcome.{Outcome}
use Rattle.rules.specs.Verdict.{Verdict}
use Rattle.rules.specs.Verdict.{Accepted}
use Rattle.acceptance.specs.Check.{checked}
use Rattle.acceptance.specs.Passed.{need_in}
use Rattle.acceptance.proofs.Accepting.{accepted_exactly}
use Rattle.acceptance.proofs.Outcomes.{refused_outcome, no_room_outcome, accepted_outcome}
use Rattle.checker.specs.Internal.{Swept, ended, stopped, last_need, VerdictOf, refusing, narrow, accepting, code_marks, CodeOutcome}
use Rattle.checker.specs.declared.sweep.Sweep.{Sweep}
use Rattle.control_flow.specs.declared.Refusal.{Refusal}
use Rattle.std.specs.Prelude.{Result}

-- the last routine is main
reported : (image needs : List ℕ) (count : ℕ) → count ≡ count_of image → last_need needs count ≡ reported_need image (need_in needs)
unfolding main_of
reported image needs count e = rw (← e) (omega arith)

module _ {image : List ℕ} {limits : Limits} {layout : Layout} (valid : validated image limits ≡ Valid layout) (marks : List ℕ)
    (size : length marks ≡ size_of image) where
  outcome : {swept : Result Sweep Refusal} {v : Verdict} → Swept image limits marks swept → VerdictOf limits layout.count swept v →
      (before : List ℕ) → size_of image ≤ length before → Outcome image limits before v (code_marks v marks ++ drop (size_of image) before)
  outcome (ended {s} passed) (narrow short) before enough =
      rw size (no_room_outcome valid before enough passed refl (reported image s.needs layout.count (count_is image limits layout valid)) short)
  outcome (ended {s} passed) (accepting room) before enough =
      accepted_outcome valid before enough passed refl (reported image s.needs layout.count (count_is image limits layout valid)) room
  outcome (stopped inside passed refusal) refusing before enough = rw size (refused_outcome valid before enough passed inside refusal)

  pub code_outcome : {swept : Result Sweep Refusal} {v : Verdict} {after : List ℕ} → Swept image limits marks swept →
      VerdictOf limits layout.count swept v → after ≡ code_marks v marks → CodeOutcome image limits v after
  code_outcome swept verdict e = rw e (record { whole = outcome swept verdict })

-- over marks that are more than the code has bytes
pub code_whole : {image : List ℕ} {limits : Limits} {size : ℕ} {v : Verdict} {before marks : List ℕ} → size ≡ size_of image → size ≤ length before →
    CodeOutcome image limits v marks → Outcome image limits before v (marks ++ drop size before)
code_whole {image} {before = before} e enough o = rw e (o.whole before (omega arith))

-- what is accepted is valid
pub accepted_valid : (image : List ℕ) (limits : Limits) (marks : List ℕ) {v : Verdict} {after : List ℕ} {n c : ℕ} →
    checked image limits marks ≡ (v, after) → v ≡ Accepted n c → validated image limits ≡ Valid (layout_of image)
accepted_valid image limits marks {n = n} {c = c} check e =
    let h = (accepted_exactly image limits marks n c).0 (ap (λ (r : Verdict × List ℕ). r.0) check ∙ e) in
    rules_valid image limits h.rules.areas h.rules.layout
