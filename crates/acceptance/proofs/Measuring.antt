-- The greatest value over a list, and the marks that its offsets get.
use Prim.Native.Nat.{ℕ, ◌+◌, ◌-◌, ◌<◌, ◌≤◌, max}
use mathlib.Core.Path.{◌≡◌, refl, sym, ◌∙◌}
use mathlib.Core.Logic.{◌⊎◌, inl, inr, ⊎_elim, by_cases}
use mathlib.Core.List.{List, [], ◌∷◌, foldr, map}
use native.Mathlib.Decide.{ℕ_discrete, dec_lt}
use native.Mathlib.Omega.{arith}
use lib.ListN.{length, get_or, length-set}
use lib.Seq.{get_or-set_same, get_or-set_other}
use Rattle.acceptance.specs.Check.{mark_all}
use Rattle.code.specs.Instructions.{In, head, tail}

-- the greatest value of a function over a list, 0 where the list is empty
abbrev pub greatest : (ℕ → ℕ) → List ℕ → ℕ
greatest f l = foldr max 0 (map f l)

module _ (f : ℕ → ℕ) where
  pub greatest_bounds : {o : ℕ} {l : List ℕ} → In o l → f o ≤ greatest f l
  greatest_bounds head = omega arith
  greatest_bounds (tail i) = omega (arith, greatest_bounds i)

  -- one of a list that is not empty attains it
  pub greatest_in : (s : ℕ) (rest : List ℕ) → (o : ℕ) × In o (s ∷ rest) × (greatest f (s ∷ rest) ≡ f o)
  greatest_in s [] = (s, head, omega arith)
  greatest_in s (t ∷ rest) =
      let g = greatest_in t rest in
      by_cases (dec_lt (f s) (greatest f (t ∷ rest)))
      (λ l. (g.0, tail g.1, omega (arith, g.2)))
      (λ l. (s, head, omega arith))

-- the marks of a list's offsets
module _ (bias : ℕ) (depths marks : List ℕ) where
  pub marks_size : (l : List ℕ) → length (mark_all bias depths marks l) ≡ length marks
  marks_size [] = refl
  marks_size (s ∷ rest) = length-set (mark_all bias depths marks rest) s _ ∙ marks_size rest

  mark_front : (s o : ℕ) (rest : List ℕ) → s < length marks → (get_or (mark_all bias depths marks rest) o 0 ≡ get_or depths o 0 - bias + 1) ⊎ (s ≡ o) →
      get_or (mark_all bias depths marks (s ∷ rest)) o 0 ≡ get_or depths o 0 - bias + 1
  mark_front s o rest below h =
      by_cases (ℕ_discrete o s)
      (λ e. rw e (get_or-set_same (mark_all bias depths marks rest) s _ 0 (omega (arith, marks_size rest))))
      (λ ne.
      get_or-set_other (mark_all bias depths marks rest) s o _ 0 ne ∙ ⊎_elim (λ z. z) (λ e. absurd (ne (sym e))) h)

  pub mark_at : {o : ℕ} {l : List ℕ} → ((k : ℕ) → In k l → k < length marks) → In o l →
      get_or (mark_all bias depths marks l) o 0 ≡ get_or depths o 0 - bias + 1
  mark_at {o} inside (head {rest}) = mark_front o o rest (inside o head) (inr refl)
  mark_at {o} inside (tail {y = s} {rest} i) = mark_front s o rest (inside s head) (inl (mark_at (λ k j. inside k (tail j)) i))

  pub mark_or : (o : ℕ) (l : List ℕ) → In o l ⊎ (get_or (mark_all bias depths marks l) o 0 ≡ get_or marks o 0)
  mark_or o [] = inr refl
  mark_or o (s ∷ rest) =
      by_cases (ℕ_discrete o s) (λ e. inl (rw e head))
      (λ ne. ⊎_elim (λ i. inl (tail i)) (λ e. inr (get_or-set_other (mark_all bias depths marks rest) s o _ 0 ne ∙ e)) (mark_or o rest))
