-- What the number of an answer tells.
use Prim.Native.Nat.{ℕ, ◌≤◌}
use mathlib.Core.Path.{◌≡◌, refl, sym, ◌∙◌}
use mathlib.Core.Logic.{◌⊎◌, ⊎_elim, by_cases, inl, inr}
use mathlib.Core.List.{List}
use native.Mathlib.Decide.{ℕ_discrete}
use native.Mathlib.Omega.{arith}
use Rattle.image.specs.declared.Limits.{Limits}
use Rattle.rules.specs.Outcome.{VerdictNumbered}
use Rattle.rules.specs.Verdict as Verdict
use Rattle.machine.specs.declared.RunAnswer.{RunAnswer}
use Rattle.saved_state.proofs.Saving.{saved_34}
use Rattle.resuming.specs.declared.ResumeAnswer.{ResumeAnswer}
use Rattle.resuming.specs.declared.ResumeAnswer.TheVariants.{Refused}
use Rattle.resuming.specs.declared.Resumed.{Resumed}
use Rattle.resuming.specs.Resuming.{Ends, finished, spent, ResumesAccepted, unreadable, not_good, resumed}
use Rattle.resuming.specs.Values.{ResumeNumbered, RefusalNumber}

-- a verdict is one or the other
pub not_accepted : {number offset need count : ℕ} → Verdict.Refused number offset ≡ Verdict.Accepted need count → ⊥
not_accepted e = let z : ◌≡◌ {A = ℕ} 0 1 = cc in omega arith

pub refused_numbered : (number offset : ℕ) → RefusalNumber number → ((number ≤ 5) ⊎ (16 ≤ number) → offset ≡ 0) → ResumeNumbered (Refused number offset)
refused_numbered number offset known nowhere =
    record {
      finished = λ e. absurd (⊎_elim (λ few. omega (arith, few)) (λ two. omega (arith, two)) known);
      spent = λ e. absurd (⊎_elim (λ few. omega (arith, few)) (λ two. omega (arith, two)) known);
      refused = λ _. refl;
      known = inl known;
      nowhere = nowhere;
    }

-- of the check's refusals
pub check_numbered : {number offset : ℕ} → VerdictNumbered 16 (Verdict.Refused number offset) → ResumeNumbered (Refused number offset)
check_numbered {number} {offset} v =
    refused_numbered number offset (inl (least, omega (arith, v.most))) v.nowhere
  where
    least : 1 ≤ number
    least = by_cases (ℕ_discrete number 0) (λ e. absurd (not_accepted (v.accepted e))) (λ some. omega arith)

-- of an accepted image
end_numbered : {run : RunAnswer} {answer : ResumeAnswer} → Ends run answer → ResumeNumbered answer
end_numbered finished =
    record {
      finished = λ _. refl;
      spent = λ e. absurd (omega arith);
      refused = λ known. absurd (⊎_elim (λ few. omega (arith, few)) (λ two. omega (arith, two)) known);
      known = inr (inl refl);
      nowhere = λ _. refl;
    }
end_numbered spent =
    record {
      finished = λ e. absurd (omega arith);
      spent = λ _. refl;
      refused = λ known. absurd (⊎_elim (λ few. omega (arith, few)) (λ two. omega (arith, two)) known);
      known = inr (inr refl);
      nowhere = λ _. refl;
    }

pub accepted_numbered : {image : List ℕ} {limits : Limits} {marks memory bytes after : List ℕ} {budget : ℕ} {r : Resumed} →
    ResumesAccepted image limits marks memory bytes budget r after → ResumeNumbered r.answer
accepted_numbered {bytes = bytes} (unreadable is some) =
    let thirty-four = sym is ∙ saved_34 bytes (λ e. some (sym is ∙ e)) in
    refused_numbered _ 0 (inr (omega arith, omega arith)) (λ _. refl)
accepted_numbered (not_good passes bad) = refused_numbered 35 0 (inr (omega arith, omega arith)) (λ _. refl)
accepted_numbered (resumed passes good ends is) = end_numbered ends
