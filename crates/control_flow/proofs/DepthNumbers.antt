-- 11, 12 and 14 by the cells: which number comes when.
use Prim.Native.Nat.{ℕ, ◌+◌, ◌<◌, ◌≤◌}
use mathlib.Core.Path.{◌≡◌, refl}
use mathlib.Core.Logic.{⊎_elim}
use mathlib.Core.List.{List, [], ◌∷◌}
use native.Mathlib.Omega.{arith}
use lib.Dec.{eqb, ltb}
use borrow.Author.Tests.{eqb-true, eqb-false, ltb-true}
use Rattle.numbers.specs.Checks.{first, both, under, differ}
use Rattle.numbers.specs.Folds.{first_in}
use Rattle.numbers.proofs.Checking.{by_test, both_zero, under_zero, differ_zero}
use Rattle.control_flow.specs.Routine.{depth_number}

-- the first check of a list that fails, or none does
data Failing : List ℕ → ℕ → Type 0 where
  none : Failing [] 0
  here : {check : ℕ} {checks : List ℕ} → 1 ≤ check → Failing (check ∷ checks) check
  later : {check n : ℕ} {checks : List ℕ} → check ≡ 0 → Failing checks n → Failing (check ∷ checks) n

failing : (checks : List ℕ) → Failing checks (first_in checks)
unfolding first_in first
failing [] = none
failing (check ∷ checks) =
    by_test (λ n. Failing (check ∷ checks) n) (eqb check 0)
    (λ t. later (eqb-true check 0 t) (failing checks))
    (λ t. let ne = eqb-false check 0 t in here (omega arith))

-- what a check that fails says
module _ (a b k : ℕ) where
  under_some : 1 ≤ under a b k → (a < b) × (under a b k ≡ k)
  unfolding under
  under_some = by_test (λ n. 1 ≤ n → (a < b) × (n ≡ k)) (ltb a b) (λ t h. (ltb-true a b t, refl)) (λ t h. absurd (omega arith))

  differ_some : 1 ≤ differ a b k → (a ≡ b → ⊥) × (differ a b k ≡ k)
  unfolding differ
  differ_some = by_test (λ n. 1 ≤ n → (a ≡ b → ⊥) × (n ≡ k)) (eqb a b) (λ t h. absurd (omega arith)) (λ t h. (eqb-false a b t, refl))

both_some : (a b : ℕ) → 1 ≤ both a b → (1 ≤ a) × (1 ≤ b) × (both a b ≡ b)
unfolding both
both_some a b =
    by_test (λ n. 1 ≤ n → (1 ≤ a) × (1 ≤ b) × (n ≡ b)) (eqb a 0)
    (λ t h. absurd (omega arith))
    (λ t h. let ne = eqb-false a 0 t in (omega arith, h, refl))

module _ (bias held falls jumps pops pushes store call : ℕ) where
  -- the depth is from 0 to 255 before the instruction and after it, and 0 where control does not go on
  pub record Inside : Type 0 where
    pub before_low : bias ≤ held
    pub before_high : held ≤ bias + 255
    pub after_low : bias + pops ≤ held + pushes
    pub after_high : held + pushes ≤ bias + 255 + pops
    pub ended : falls ≡ 0 → jumps ≡ 0 → held ≡ bias

  pub data DepthTest : ℕ → Type 0 where
    outside : (Inside → ⊥) → DepthTest 11
    denied : Inside → held < bias + store → DepthTest 12
    lost : Inside → bias + store ≤ held → 32 < call → DepthTest 14
    allowed : Inside → bias + store ≤ held → call ≤ 32 → DepthTest 0

  end_zero : both (under falls 1 11) (both (under jumps 1 11) (differ held bias 11)) ≡ 0 → falls ≡ 0 → jumps ≡ 0 → held ≡ bias
  end_zero e f j =
      ⊎_elim (λ z. absurd (omega (arith, under_zero falls 1 10 z)))
      (λ y. ⊎_elim (λ z. absurd (omega (arith, under_zero jumps 1 10 z))) (differ_zero held bias 10) (both_zero _ _ y))
      (both_zero _ _ e)

  end_some : 1 ≤ both (under falls 1 11) (both (under jumps 1 11) (differ held bias 11)) →
      (Inside → ⊥) × (both (under falls 1 11) (both (under jumps 1 11) (differ held bias 11)) ≡ 11)
  end_some h =
      let f = both_some _ _ h in
      let j = both_some _ _ f.1 in
      let d = differ_some held bias 11 j.1 in (
        λ i. d.0 (i.ended (omega (arith, under_some falls 1 11 f.0)) (omega (arith, under_some jumps 1 11 j.0))),
        omega (arith, f.2, j.2, d.1),
      )

  under_fails : (a b : ℕ) → 1 ≤ under a b 11 → (Inside → b ≤ a) → DepthTest (under a b 11)
  under_fails a b h bound = let u = under_some a b 11 h in rw u.1 (outside (λ i. omega (arith, bound i)))

  tested : {number : ℕ} →
      Failing
      (under held bias 11 ∷
      under (bias + 255) held 11 ∷
      under (held + pushes) (bias + pops) 11 ∷
      under (bias + 255 + pops) (held + pushes) 11 ∷
      both (under falls 1 11) (both (under jumps 1 11) (differ held bias 11)) ∷
      under held (bias + store) 12 ∷
      under 32 call 14 ∷
      []) number →
      DepthTest number
  tested (here h) = under_fails _ _ h (λ i. i.before_low)
  tested (later a (here h)) = under_fails _ _ h (λ i. i.before_high)
  tested (later a (later b (here h))) = under_fails _ _ h (λ i. i.after_low)
  tested (later a (later b (later c (here h)))) = under_fails _ _ h (λ i. i.after_high)
  tested (later a (later b (later c (later d (here h))))) = let u = end_some h in rw u.1 (outside u.0)
  tested (later a (later b (later c (later d (later e rest))))) =
      go rest
      (record {
        before_low = under_zero _ _ 10 a;
        before_high = under_zero _ _ 10 b;
        after_low = under_zero _ _ 10 c;
        after_high = under_zero _ _ 10 d;
        ended = end_zero e;
      })
    where
      go : {number : ℕ} → Failing (under held (bias + store) 12 ∷ under 32 call 14 ∷ []) number → Inside → DepthTest number
      go (here h) i = let u = under_some _ _ _ h in rw u.1 (denied i u.0)
      go (later s (here h)) i = let u = under_some _ _ _ h in rw u.1 (lost i (under_zero _ _ 11 s) u.0)
      go (later s (later t none)) i = allowed i (under_zero _ _ 11 s) (under_zero _ _ 13 t)

  pub depth_test : DepthTest (depth_number bias held falls jumps pops pushes store call)
  unfolding depth_number
  depth_test = tested (failing _)

-- what it means that none of them comes
pub depth_passes : (bias held falls jumps pops pushes store call : ℕ) → depth_number bias held falls jumps pops pushes store call ≡ 0 →
    Inside bias held falls jumps pops pushes store call × (bias + store ≤ held) × (call ≤ 32)
depth_passes bias held falls jumps pops pushes store call e = go (depth_test bias held falls jumps pops pushes store call) e
  where
    go : {number : ℕ} → DepthTest bias held falls jumps pops pushes store call number → number ≡ 0 →
        Inside bias held falls jumps pops pushes store call × (bias + store ≤ held) × (call ≤ 32)
    go (outside out) z = absurd (omega arith)
    go (denied i s) z = absurd (omega arith)
    go (lost i s c) z = absurd (omega arith)
    go (allowed i s c) z = (i, s, c)
