-- Sums and lists of checks: one element more, and what it means that every check passes.
use Prim.Native.Nat.{ℕ, suc, zero, ◌+◌, ◌<◌, ◌≤◌, suc-le-suc, zero-le}
use mathlib.Core.Path.{◌≡◌, refl, sym, ◌∙◌, ap}
use mathlib.Core.Bool.{Bool, true, false, cond}
use mathlib.Core.List.{List, [], ◌∷◌, map, sum, sum-append}
use native.Mathlib.Numerals.{add-one}
use native.Mathlib.Omega.{arith}
use native.Mathlib.Nat.{add-zero, zero-add, add_assoc, le_of_suc-le-suc, not-suc-le-zero}
use lib.Dec.{eqb}
use lib.ListN.{length, get_or, take, drop, take-append-drop}
use lib.Seq.{take-suc, take-take}
use borrow.Author.Tests.{eqb-true}
use Rattle.numbers.specs.Checks.{first}
use Rattle.numbers.specs.Folds.{total, first_in}
use Rattle.numbers.proofs.Checking.{first_zero, first_pass}

pub first_none : (a : ℕ) → first a 0 ≡ a
unfolding first
first_none a = go (eqb a 0) refl
  where
    go : (t : Bool) → eqb a 0 ≡ t → cond t 0 a ≡ a
    go true p = sym (eqb-true a 0 p)
    go false p = refl

pub first_assoc : (a b c : ℕ) → first (first a b) c ≡ first a (first b c)
unfolding first
first_assoc a b c = go (eqb a 0) refl
  where
    go : (t : Bool) → eqb a 0 ≡ t → cond (eqb (cond t b a) 0) c (cond t b a) ≡ cond t (cond (eqb b 0) c b) a
    go true p = refl
    go false p = rw p

-- the sum of one element more
pub total_more : (l : List ℕ) (k d : ℕ) → k < length l → total (take (k + 1) l) ≡ total (take k l) + get_or l k d
unfolding sum total
total_more l k d h =
    rw (add-one, take-suc l k d h)
    (sum-append ◌+◌ 0 zero-add add_assoc (take k l) (get_or l k d ∷ []) ∙ ap (λ n. total (take k l) + n) (add-zero (get_or l k d)))

-- the sum of a front part, and of a longer one
total_split : (k : ℕ) (l : List ℕ) → total (take k l) + total (drop k l) ≡ total l
unfolding sum total
total_split k l = sym (sum-append ◌+◌ 0 zero-add add_assoc (take k l) (drop k l)) ∙ ap total (take-append-drop k l)

pub total_front : (k : ℕ) (l : List ℕ) → total (take k l) ≤ total l
total_front k l = omega (arith, total_split k l)

pub total_rises : (j k : ℕ) (l : List ℕ) → j ≤ k → total (take j l) ≤ total (take k l)
total_rises j k l h = rw (take-take j k l h) at (total_front j (take k l))

-- every check of a list passes
abbrev pub Passed : List ℕ → Type 0
Passed [] = Unit {0}
Passed (check ∷ checks) = (check ≡ 0) × Passed checks

pub passed : (checks : List ℕ) → first_in checks ≡ 0 → Passed checks
unfolding first_in
passed [] e = tt
passed (check ∷ checks) e = let h = first_zero _ _ e in (h.0, passed checks h.1)

infixr 5 ◌&◌
pub ◌&◌ : {a b : ℕ} → a ≡ 0 → b ≡ 0 → first a b ≡ 0
p & q = rw (p, first_pass) q

-- a check of each number of a list
module _ (check : ℕ → ℕ) where
  pub passed_at : (l : List ℕ) → first_in (map check l) ≡ 0 → (k : ℕ) → k < length l → check (get_or l k 0) ≡ 0
  unfolding first_in
  passed_at [] e k below = absurd (not-suc-le-zero below)
  passed_at (n ∷ l) e zero below = (first_zero _ _ e).0
  passed_at (n ∷ l) e (suc k) below = passed_at l (first_zero _ _ e).1 k (le_of_suc-le-suc below)

  pub pass_at : (l : List ℕ) → ((k : ℕ) → k < length l → check (get_or l k 0) ≡ 0) → first_in (map check l) ≡ 0
  unfolding first_in
  pass_at [] h = refl
  pass_at (n ∷ l) h = h 0 (suc-le-suc zero-le) & pass_at l (λ k below. h (suc k) (suc-le-suc below))
