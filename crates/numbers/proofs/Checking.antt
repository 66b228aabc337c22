-- What it means that a check passes, both ways: one law for each combinator. A check that can fail has a number that is not 0, so the laws
-- that go by one speak of `suc k`: `under_zero a b 23` is about trap 24.
use Prim.Native.Nat.{ℕ, suc, ◌≤◌}
use mathlib.Core.Path.{◌≡◌, refl}
use mathlib.Core.Logic.{◌⊎◌, inl, inr}
use mathlib.Core.Bool.{Bool, true, false, cond}
use native.Mathlib.Omega.{arith}
use lib.Dec.{ltb, eqb}
use borrow.Author.Tests.{eqb-true, eqb-false, ltb-false, eq-eqb, le-ltb}
use Rattle.numbers.specs.Checks.{first, both, under, unless, differ}

-- by the two cases of a test: of what follows from a value, and of what holds of it
pub by_cond : {A P : Type 0} (t : Bool) {x y z : A} → (t ≡ true → x ≡ z → P) → (t ≡ false → y ≡ z → P) → cond t x y ≡ z → P
by_cond true f g e = f refl e
by_cond false f g e = g refl e

pub by_test : {A : Type 0} (P : A → Type 0) (t : Bool) {x y : A} → (t ≡ true → P x) → (t ≡ false → P y) → P (cond t x y)
by_test P true f g = f refl
by_test P false f g = g refl

pub first_zero : (a b : ℕ) → first a b ≡ 0 → (a ≡ 0) × (b ≡ 0)
unfolding first
first_zero a b = by_cond (eqb a 0) (λ p q. (eqb-true a 0 p, q)) (λ p q. absurd (eqb-false a 0 p q))

pub first_pass : (b : ℕ) → first 0 b ≡ b
unfolding first
first_pass b = refl

pub both_zero : (a b : ℕ) → both a b ≡ 0 → (a ≡ 0) ⊎ (b ≡ 0)
unfolding both
both_zero a b = by_cond (eqb a 0) (λ p q. inl (eqb-true a 0 p)) (λ p q. inr q)

pub both_pass : (a b : ℕ) → (a ≡ 0) ⊎ (b ≡ 0) → both a b ≡ 0
unfolding both
both_pass a b (inl e) = rw e
both_pass a b (inr e) = by_test (λ n. n ≡ 0) (eqb a 0) (λ p. refl) (λ p. e)

pub under_zero : (a b k : ℕ) → under a b (suc k) ≡ 0 → b ≤ a
unfolding under
under_zero a b k = by_cond (ltb a b) (λ p q. let z : ⊥ = omega (arith, q) in absurd z) (λ p q. ltb-false a b p)

pub under_pass : (a b k : ℕ) → b ≤ a → under a b k ≡ 0
unfolding under
under_pass a b k h = rw (le-ltb a b h)

pub differ_zero : (a b k : ℕ) → differ a b (suc k) ≡ 0 → a ≡ b
unfolding differ
differ_zero a b k = by_cond (eqb a b) (λ p q. eqb-true a b p) (λ p q. let z : ⊥ = omega (arith, q) in absurd z)

pub differ_pass : (a b k : ℕ) → a ≡ b → differ a b k ≡ 0
unfolding differ
differ_pass a b k e = rw (eq-eqb a b e)

pub unless_zero : (holds : Bool) (k : ℕ) → unless holds (suc k) ≡ 0 → holds ≡ true
unfolding unless
unless_zero true k e = refl
unless_zero false k e = let z : ⊥ = omega (arith, e) in absurd z

pub unless_pass : (k : ℕ) → unless true k ≡ 0
unfolding unless
unless_pass k = refl
