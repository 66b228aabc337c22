-- Resuming has one outcome: what it answers, the marks and the memory after it.
use Prim.Native.Nat.{ℕ}
use mathlib.Core.Path.{◌≡◌, refl, sym, ap, ◌∙◌}
use mathlib.Core.List.{List}
use Rattle.image.specs.declared.Limits.{Limits}
use Rattle.rules.specs.Outcome.{values_of}
use Rattle.rules.specs.Verdict as Verdicts
use Rattle.rules.specs.Verdict.{Verdict}
use Rattle.machine.specs.declared.RunAnswer.{RunAnswer}
use Rattle.saved_state.specs.Sls.{state_in}
use Rattle.resuming.specs.Resuming.{zeros_for, Ends, finished, spent, ran_on, ResumesAccepted, unreadable, not_good, resumed, Resumes, no_memory, refused, accepted}
use Rattle.resuming.specs.declared.ResumeAnswer.{ResumeAnswer}
use Rattle.resuming.specs.declared.Resumed.{Resumed}
use Rattle.resuming.proofs.ResumeNumbers.{not_accepted}

one_end : {run : RunAnswer} {a b : ResumeAnswer} → Ends run a → Ends run b → a ≡ b
one_end finished finished = refl
one_end spent spent = refl

module _ (image : List ℕ) (limits : Limits) (memory bytes : List ℕ) (budget : ℕ) where
  one_accepted : {marks after after' : List ℕ} {r r' : Resumed} → ResumesAccepted image limits marks memory bytes budget r after →
      ResumesAccepted image limits marks memory bytes budget r' after' → (r ≡ r') × (after ≡ after')
  one_accepted (unreadable is some) (unreadable is' some') = (ap (λ n. zeros_for n 0) (sym is ∙ is'), refl)
  one_accepted (unreadable is some) (not_good read bad) = absurd (some (sym is ∙ read))
  one_accepted (unreadable is some) (resumed read good ends on) = absurd (some (sym is ∙ read))
  one_accepted (not_good read bad) (unreadable is some) = absurd (some (sym is ∙ read))
  one_accepted (not_good read bad) (not_good read' bad') = (refl, refl)
  one_accepted (not_good read bad) (resumed read' good ends on) = absurd (bad good)
  one_accepted (resumed read good ends on) (unreadable is some) = absurd (some (sym is ∙ read))
  one_accepted (resumed read good ends on) (not_good read' bad) = absurd (bad good)
  one_accepted (resumed read good ends on) (resumed read' good' ends' on') =
      let same = on ∙ ap (ran_on image limits memory (state_in bytes) budget) (one_end ends ends') ∙ sym on' in
      (ap (λ (x : Resumed × List ℕ). x.0) same, ap (λ (x : Resumed × List ℕ). x.1) same)

  abbrev Same : Resumed → Resumed → List ℕ → List ℕ → List ℕ → List ℕ → Type 0
  Same r r' marks marks' after after' = (r ≡ r') × (marks ≡ marks') × (after ≡ after')

  same_refusal : {n n' o o' : ℕ} {marks marks' : List ℕ} → ◌≡◌ {A = Verdict × List ℕ} (Verdicts.Refused n o, marks) (Verdicts.Refused n' o', marks') →
      Same (zeros_for n o) (zeros_for n' o') marks marks' memory memory
  same_refusal e =
      let number = ap (λ (x : Verdict × List ℕ). (values_of x.0).number) e in
      let offset = ap (λ (x : Verdict × List ℕ). (values_of x.0).offset) e in
      (rw (number, offset), ap (λ (x : Verdict × List ℕ). x.1) e, refl)

  same_verdict : {v w : Verdict} {marks marks' : List ℕ} → ◌≡◌ {A = Verdict × List ℕ} (v, marks) (w, marks') → v ≡ w
  same_verdict e = ap (λ (x : Verdict × List ℕ). x.0) e

  pub one_outcome : {marks left left' after after' : List ℕ} {r r' : Resumed} → Resumes image limits marks memory bytes budget r left after →
      Resumes image limits marks memory bytes budget r' left' after' → Same r r' left left' after after'
  one_outcome (no_memory other) (no_memory other') = (refl, refl, refl)
  one_outcome (no_memory other) (refused size check) = absurd (other size)
  one_outcome (no_memory other) (accepted size check rest) = absurd (other size)
  one_outcome (refused size check) (no_memory other) = absurd (other size)
  one_outcome (refused size check) (refused size' check') = same_refusal (sym check ∙ check')
  one_outcome (refused size check) (accepted size' check' rest) = absurd (not_accepted (same_verdict (sym check ∙ check')))
  one_outcome (accepted size check rest) (no_memory other) = absurd (other size)
  one_outcome (accepted size check rest) (refused size' check') = absurd (not_accepted (same_verdict (sym check' ∙ check)))
  one_outcome (accepted size check rest) (accepted size' check' rest') =
      let left_is = ap (λ (x : Verdict × List ℕ). x.1) (sym check ∙ check') in
      let one = one_accepted (rw left_is at rest) rest' in
      (one.0, left_is, one.1)
