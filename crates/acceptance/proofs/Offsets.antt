-- Lists of offsets that rise, and the first one at which a check fails.
use Prim.Native.Nat.{ℕ, ◌<◌, ◌≤◌}
use mathlib.Core.Path.{◌≡◌, refl}
use mathlib.Core.Logic.{by_cases}
use mathlib.Core.Bool.{true}
use mathlib.Core.List.{List, [], ◌∷◌}
use native.Mathlib.Decide.{ℕ_discrete}
use native.Mathlib.Omega.{arith}
use lib.Dec.{eqb}
use borrow.Author.Tests.{eq-eqb, ne_eqb}
use Rattle.numbers.proofs.Checking.{by_test}
use Rattle.code.specs.Instructions.{In, head, tail}
use Rattle.code.proofs.StartList.{Rising, none, next}
use Rattle.acceptance.specs.Starts.{listed}
use Rattle.acceptance.specs.Check.{Refusing, first_at}

pub listed_in : (o : ℕ) (l : List ℕ) → listed o l ≡ true → In o l
unfolding listed
listed_in o [] e = let z : ◌≡◌ {A = ℕ} 0 1 = cc in absurd (omega arith)
listed_in o (s ∷ rest) e =
    by_cases (ℕ_discrete o s) (λ here. rw here head) (λ away. tail (listed_in o rest (rw (ne_eqb o s away) at e)))

pub in_listed : {o : ℕ} {l : List ℕ} → In o l → listed o l ≡ true
unfolding listed
in_listed {o} head = rw (eq-eqb o o refl)
in_listed {o} (tail {y = s} {rest} i) = by_test (λ t. t ≡ true) (eqb o s) (λ here. refl) (λ away. in_listed i)

pub rising_above : {b o : ℕ} {l : List ℕ} → Rising b l → In o l → b ≤ o
rising_above (next low rest) head = low
rising_above (next low rest) (tail i) = omega (arith, rising_above rest i)
rising_above {o = o} (none {b = b}) x4 = elim x4 [ ]

-- the first of a list at which a check fails: it passes at every lower one
pub record FirstIn (check : ℕ → ℕ) (l : List ℕ) (found : Refusing) : Type 0 where
  pub inside : In found.at l
  pub is : found.number ≡ check found.at
  pub lower : (o : ℕ) → o < found.at → In o l → check o ≡ 0

module _ (check : ℕ → ℕ) where
  -- at the front of a list that has no failure
  front : (s : ℕ) (rest : List ℕ) → (first_at check (s ∷ rest)).number ≡ 0 → (check s ≡ 0) × ((first_at check rest).number ≡ 0)
  unfolding first_at
  front s rest e =
      by_cases (ℕ_discrete (check s) 0)
      (λ z. (z, rw (eq-eqb (check s) 0 z) at e))
      (λ z. absurd (z (rw (ne_eqb (check s) 0 z) at e)))

  pub first_none : (l : List ℕ) → (first_at check l).number ≡ 0 → {o : ℕ} → In o l → check o ≡ 0
  first_none (s ∷ rest) e head = (front s rest e).0
  first_none (s ∷ rest) e (tail i) = first_none rest (front s rest e).1 i
  first_none [] e {o = o} x'' = elim x'' [ ]

  -- one more in front, at which it passes
  further : {s : ℕ} {rest : List ℕ} {found : Refusing} → check s ≡ 0 → FirstIn check rest found → FirstIn check (s ∷ rest) found
  further {s} {rest} {found} z f = record { inside = tail f.inside; is = f.is; lower = lower }
    where
      lower : (o : ℕ) → o < found.at → In o (s ∷ rest) → check o ≡ 0
      lower o below head = z
      lower o below (tail i) = f.lower o below i

  pub first_found : (l : List ℕ) {b : ℕ} → Rising b l → ((first_at check l).number ≡ 0 → ⊥) → FirstIn check l (first_at check l)
  unfolding first_at
  first_found [] up some = absurd (some refl)
  first_found (s ∷ rest) (next low up) some =
      by_cases (ℕ_discrete (check s) 0)
      (λ z. rw (eq-eqb (check s) 0 z) (further z (first_found rest up (rw (eq-eqb (check s) 0 z) at some))))
      (λ z.
      let same : s ≤ s = omega arith in
      let here : Rising s (s ∷ rest) = next same up in
      rw (ne_eqb (check s) 0 z)
      (record { inside = head; is = refl; lower = λ o below i. absurd (omega (arith, rising_above here i)) }))
