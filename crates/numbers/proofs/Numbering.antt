-- Which numbers a check can give.
use Prim.Native.Nat.{ℕ, ◌≤◌}
use mathlib.Core.Path.{◌≡◌, refl}
use mathlib.Core.Bool.{Bool, true, cond, ◌&&◌, and-eq-true_iff}
use lib.Dec.{eqb, ltb, leb}
use borrow.Author.Tests.{leb-true}
use Rattle.numbers.specs.Checks.{first, both, under, unless, differ}
use Rattle.numbers.proofs.Checking.{by_test}

-- a check's number: 0, or from low to high
pub data Numbered (low high : ℕ) : ℕ → Type 0 where
  pass : Numbered low high 0
  fails : {number : ℕ} → low ≤ number → number ≤ high → Numbered low high number

-- what a check that fails gives
pub not_zero : {low high number : ℕ} → Numbered low high number → (number ≡ 0 → ⊥) → (low ≤ number) × (number ≤ high)
not_zero pass some = absurd (some refl)
not_zero (fails above below) some = (above, below)

-- a number that is written out is compared by computing
abbrev pub Listed : ℕ → ℕ → ℕ → Type 0
Listed low high number = (leb low number && leb number high) ≡ true

infixr 5 ◌then◌
module _ {low high : ℕ} where
  pub fails_as : (number : ℕ) → Listed low high number → Numbered low high number
  fails_as number listed =
      let ends = (and-eq-true_iff (leb low number) (leb number high)).0 listed in
      fails (leb-true _ _ ends.0) (leb-true _ _ ends.1)

  pub tested : (t : Bool) {a b : ℕ} → Numbered low high a → Numbered low high b → Numbered low high (cond t a b)
  tested t x y = by_test (Numbered low high) t (λ p. x) (λ p. y)

  pub ◌then◌ : {a b : ℕ} → Numbered low high a → Numbered low high b → Numbered low high (first a b)
  unfolding first
  ◌then◌ {a} x y = tested (eqb a 0) y x

  pub either : (a : ℕ) {b : ℕ} → Numbered low high b → Numbered low high (both a b)
  unfolding both
  either a y = tested (eqb a 0) pass y

  module _ (number : ℕ) (listed : Listed low high number) where
    pub under_numbered : (a b : ℕ) → Numbered low high (under a b number)
    unfolding under
    under_numbered a b = tested (ltb a b) (fails_as number listed) pass

    pub unless_numbered : (holds : Bool) → Numbered low high (unless holds number)
    unfolding unless
    unless_numbered holds = tested holds pass (fails_as number listed)

    pub differ_numbered : (a b : ℕ) → Numbered low high (differ a b number)
    unfolding differ
    differ_numbered a b = tested (eqb a b) pass (fails_as number listed)
