-- Two lists are the same exactly where the test says so, and the test is the one bool that does.
use Prim.Native.Nat.{ℕ}
use mathlib.Core.Path.{◌≡◌, refl, sym}
use mathlib.Core.Bool.{Bool, true, false, true≢false}
use mathlib.Core.List.{List, [], ◌∷◌}
use borrow.Author.Tests.{eqb-true, eq-eqb}
use lib.Dec.{eqb}
use Rattle.numbers.specs.Lists.{same}
use Rattle.numbers.proofs.Checking.{by_cond}

pub same_refl : (xs : List ℕ) → same xs xs ≡ true
unfolding same
same_refl [] = refl
same_refl (x ∷ xs) = rw (eq-eqb x x refl, same_refl xs)

pub same_true : (xs ys : List ℕ) → same xs ys ≡ true → xs ≡ ys
unfolding same
same_true [] [] e = refl
same_true [] (y ∷ ys) e = absurd (true≢false (sym e))
same_true (x ∷ xs) [] e = absurd (true≢false (sym e))
same_true (x ∷ xs) (y ∷ ys) e =
    by_cond (eqb x y) (λ p q. rw (eqb-true x y p, same_true xs ys q)) (λ p q. absurd (true≢false (sym q))) e

pub same_is : (b : Bool) (xs ys : List ℕ) → (b ≡ true → xs ≡ ys) → (xs ≡ ys → b ≡ true) → b ≡ same xs ys
same_is true xs ys f g = rw (f refl, same_refl ys)
same_is false xs ys f g = go (same xs ys) refl
  where
    go : (t : Bool) → same xs ys ≡ t → false ≡ t
    go true p = g (same_true xs ys p)
    go false p = refl
