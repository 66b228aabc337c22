-- No two routines begin at one offset, so a call has one callee; it is the one that the search finds.
use Prim.Native.Nat.{ℕ, zero, suc, ◌+◌, ◌-◌, ◌<◌, ◌≤◌}
use mathlib.Core.Path.{◌≡◌}
use mathlib.Core.Logic.{by_cases}
use mathlib.Core.List.{List}
use native.Mathlib.Decide.{ℕ_discrete, dec_lt}
use native.Mathlib.Omega.{arith}
use lib.Dec.{eqb, ltb}
use borrow.Author.Tests.{eqb-true, eqb-false, ltb-false, le-ltb}
use Rattle.numbers.proofs.Checking.{by_test}
use Rattle.image.specs.Image.{base_of, count_of, start_of}
use Rattle.image.specs.Rules.{ImageRules}
use Rattle.image.proofs.Layouts.{begins_before_end}
use Rattle.image.proofs.Measuring.{end_before}
use Rattle.rules.specs.Paths.{Callee, beginning, callee}

module _ (image : List ℕ) (layout : ImageRules image) where
  pub start_before : (j k : ℕ) → j < k → k ≤ count_of image → start_of image j < start_of image k
  start_before j k h below = omega (arith, begins_before_end image layout j (omega arith), end_before image j k h (omega arith))

  pub one_routine : (j k : ℕ) → j ≤ count_of image → k ≤ count_of image → start_of image j ≡ start_of image k → j ≡ k
  one_routine j k a b e =
      by_cases (ℕ_discrete j k) (λ z. z)
      (λ z. by_cases (dec_lt j k) (λ l. absurd (omega (arith, start_before j k l b))) (λ l. absurd (omega (arith, start_before k j (omega arith) a))))

  pub one_callee : {r address j k : ℕ} → r ≤ count_of image → Callee image r address j → Callee image r address k → j ≡ k
  one_callee inside c d =
      one_routine _ _ (omega (arith, c.earlier)) (omega (arith, d.earlier)) (omega (arith, c.target, d.target))

-- the search for a routine that begins at an offset
module _ (image : List ℕ) (offset : ℕ) where
  beginning_found : (n j : ℕ) → beginning image offset n j < j + n → start_of image (beginning image offset n j) ≡ offset
  unfolding beginning
  beginning_found zero j h = absurd (omega arith)
  beginning_found (suc n) j h =
      by_test (λ k. k < j + suc n → start_of image k ≡ offset) (eqb (start_of image j) offset)
      (λ t l. eqb-true _ _ t)
      (λ t l. beginning_found n (j + 1) (omega arith)) h

  beginning_some : (n j k : ℕ) → j ≤ k → k < j + n → start_of image k ≡ offset → beginning image offset n j < j + n
  unfolding beginning
  beginning_some zero j k low high e = absurd (omega arith)
  beginning_some (suc n) j k low high e =
      by_test (λ b. b < j + suc n) (eqb (start_of image j) offset)
      (λ t. omega arith)
      (λ t.
      let later : j < k = by_cases (ℕ_discrete j k) (λ h. absurd (eqb-false (start_of image j) offset t (rw h e))) (λ h. omega arith) in
      omega (arith, beginning_some n (j + 1) k (omega arith) (omega arith) e))

module _ (image : List ℕ) (r : ℕ) where
  pub callee_found : (address : ℕ) → callee image r address < r → Callee image r address (callee image r address)
  unfolding callee
  callee_found address h =
      by_test (λ k. k < r → Callee image r address k) (ltb address (base_of image))
      (λ t l. absurd (omega arith))
      (λ t l.
      let at = beginning_found image (address - base_of image) r 0 (omega arith) in
      record { earlier = l; target = omega (arith, ltb-false address (base_of image) t) }) h

  pub callee_earlier : (address k : ℕ) → Callee image r address k → callee image r address < r
  unfolding callee
  callee_earlier address k c =
      rw (le-ltb address (base_of image) (omega (arith, c.target)))
      (omega (arith, beginning_some image (address - base_of image) r 0 k (omega arith) (omega (arith, c.earlier)) (omega (arith, c.target))))

-- a call that has a callee has the one that is found
pub callee_is : (image : List ℕ) → ImageRules image → {r address k : ℕ} → r ≤ count_of image → Callee image r address k → callee image r address ≡ k
callee_is image layout inside c = one_callee image layout inside (callee_found image _ _ (callee_earlier image _ _ _ c)) c
