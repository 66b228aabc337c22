-- 34, then 35: the two checks of a record, with each value as a variable.
use Prim.Native.Nat.{ℕ}
use mathlib.Core.Path.{◌≡◌, refl, sym, ◌∙◌}
use mathlib.Core.Bool.{Bool, true, false}
use mathlib.Core.Logic.{by_cases}
use mathlib.Core.List.{List}
use native.Mathlib.Decide.{ℕ_discrete}
use borrow.Author.Tests.{eq-eqb, ne_eqb}
use Rattle.numbers.specs.Checks.{first, unless}
use Rattle.numbers.proofs.Checking.{first_zero, unless_zero}
use Rattle.image.specs.declared.Limits.{Limits}
use Rattle.saved_state.specs.Sls.{saved_check, state_in}
use Rattle.resuming.specs.Good.{Good}
use Rattle.resuming.specs.Resuming.{zeros_for, ResumesAccepted, unreadable, not_good}
use Rattle.resuming.specs.Internal.{Tells}

-- where neither fails
pub both_passed : (bytes : List ℕ) {a b number : ℕ} → a ≡ saved_check bytes → (good : Bool) → b ≡ unless good 35 → number ≡ first a b → number ≡ 0 →
    (saved_check bytes ≡ 0) × (good ≡ true)
both_passed bytes a-is good b-is is none =
    let h = first_zero _ _ (sym is ∙ none) in
    (sym a-is ∙ h.0, unless_zero good 34 (sym b-is ∙ h.1))

module _ {image : List ℕ} {limits : Limits} {marks memory bytes : List ℕ} {budget : ℕ} where
  -- the first that fails
  second : (good : Bool) → saved_check bytes ≡ 0 → Tells good (Good image limits marks (state_in bytes).registers memory) → (unless good 35 ≡ 0 → ⊥) →
      ResumesAccepted image limits marks memory bytes budget (zeros_for (unless good 35) 0) memory
  unfolding unless
  second true read told some = absurd (some refl)
  second false read told some = not_good read told

  by_first : (good : Bool) → Tells good (Good image limits marks (state_in bytes).registers memory) → (first (saved_check bytes) (unless good 35) ≡ 0 → ⊥) →
      ResumesAccepted image limits marks memory bytes budget (zeros_for (first (saved_check bytes) (unless good 35)) 0) memory
  unfolding first
  by_first good told some =
      by_cases (ℕ_discrete (saved_check bytes) 0)
      (λ read. let e = eq-eqb (saved_check bytes) 0 read in rw e (second good read told (rw e at some)))
      (λ other. rw (ne_eqb (saved_check bytes) 0 other) (unreadable refl other))

  pub refused_accepted : {a b number : ℕ} → a ≡ saved_check bytes → (good : Bool) → Tells good (Good image limits marks (state_in bytes).registers memory) →
      b ≡ unless good 35 → number ≡ first a b → (number ≡ 0 → ⊥) → ResumesAccepted image limits marks memory bytes budget (zeros_for number 0) memory
  refused_accepted a-is good told b-is is some = let e = rw (a-is, b-is) at is in rw e (by_first good told (rw e at some))
