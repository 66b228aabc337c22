-- The part of a list from one place to another, of which no more is taken than there is; and the code of an image as such a part.
use Prim.Native.Nat.{ℕ, zero, suc, ◌-◌, ◌≤◌, min}
use mathlib.Core.Path.{◌≡◌, refl, ap, ◌∙◌}
use mathlib.Core.Logic.{by_cases}
use mathlib.Core.List.{List, [], ◌∷◌}
use native.Mathlib.Decide.{dec_le}
use native.Mathlib.Omega.{arith}
use lib.ListN.{length, take, drop, length-drop}
use borrow.Author.Rules.{part_to_end}
use Rattle.image.specs.Image.{code_at, code_of}

-- past the end of a list all counts are one
take_same : (n m : ℕ) (s : List ℕ) → min n (length s) ≡ min m (length s) → take n s ≡ take m s
take_same zero zero s e = refl
take_same zero (suc m) [] e = refl
take_same zero (suc m) (b ∷ s) e = absurd (omega arith)
take_same (suc n) zero [] e = refl
take_same (suc n) zero (b ∷ s) e = absurd (omega arith)
take_same (suc n) (suc m) [] e = refl
take_same (suc n) (suc m) (b ∷ s) e = ap (λ t. b ∷ t) (take_same n m s (omega arith))

-- an offset up to a bound, or to the end where that comes first
cut : (at end size : ℕ) → at ≤ min end size → min (min end size - at) (size - at) ≡ min (end - at) (size - at)
cut at end size h =
    by_cases (dec_le end size)
    (λ le. let m : min end size ≡ end = omega arith in rw m)
    (λ gt. let m : min end size ≡ size = omega arith in rw m (omega arith))

past : (at end size : ℕ) → min end size ≤ at → min 0 (size - at) ≡ min (end - at) (size - at)
past at end size h =
    by_cases (dec_le end size)
    (λ le. let none : end - at ≡ 0 = omega arith in rw none)
    (λ gt. let none : size - at ≡ 0 = omega arith in rw none (omega arith))

-- a part whose ends are cut to what there is
pub within : (s : List ℕ) (at end : ℕ) → let to = min end (length s) in
    take (to - min at to) (drop (min at to) s) ≡ take (end - at) (drop at s)
within s at end =
    let size = length-drop at s in
    by_cases (dec_le at (min end (length s)))
    (λ le.
    let from : min at (min end (length s)) ≡ at = omega arith in
    rw from (take_same (min end (length s) - at) (end - at) (drop at s) (rw size (cut at end (length s) le))))
    (λ gt.
    let none : min end (length s) - min at (min end (length s)) ≡ 0 = omega arith in
    rw none (take_same 0 (end - at) (drop at s) (rw size (past at end (length s) (omega arith)))))

-- the code, cut out of its image
pub code_cut : (image : List ℕ) (at : ℕ) → at ≡ code_at image → take (length image - at) (drop at image) ≡ code_of image
unfolding code_of
code_cut image at own = part_to_end image at ∙ ap (λ k. drop k image) own
