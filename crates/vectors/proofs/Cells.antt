-- Cells one after the other: what is left of them, put into the memory so far, gives the whole.
use Prim.Native.Nat.{ℕ, ◌+◌, ◌<◌, ◌≤◌}
use mathlib.Core.Path.{◌≡◌, refl, sym, ap, ◌∙◌}
use mathlib.Core.List.{List, [], ◌∷◌}
use native.Mathlib.Numerals.{add-one}
use native.Mathlib.Omega.{arith}
use lib.ListN.{length, get_or, drop, set, length-set, length-drop}
use lib.Seq.{drop-cons}
use Rattle.numbers.specs.Words.{word_at}
use Rattle.vectors.specs.Bytes.{with_cells}

next : (s : List ℕ) (i j : ℕ) → j ≡ i + 1 → i < length s → drop i s ≡ get_or s i 0 ∷ drop j s
next s i j e h = rw (e, add-one) (drop-cons s i 0 h)

first_cell : (s : List ℕ) (at : ℕ) → at + 2 < length s → drop at s ≡ get_or s at 0 ∷ get_or s (at + 1) 0 ∷ get_or s (at + 2) 0 ∷ drop (at + 3) s
first_cell s at h =
    next s at (at + 1) refl (omega arith) ∙
    ap (λ (l : List ℕ). get_or s at 0 ∷ l)
    (next s (at + 1) (at + 2) (omega arith) (omega arith) ∙
    ap (λ (l : List ℕ). get_or s (at + 1) 0 ∷ l) (next s (at + 2) (at + 3) (omega arith) (omega arith)))

put_first : (m s : List ℕ) (at : ℕ) → at + 2 < length s →
    with_cells m (drop at s) ≡ with_cells (set m (word_at s at) (get_or s (at + 2) 0)) (drop (at + 3) s)
unfolding with_cells word_at
put_first m s at h = ap (with_cells m) (first_cell s at h)

put_none : (m s : List ℕ) → length s < 3 → with_cells m s ≡ m
unfolding with_cells
put_none m [] h = refl
put_none m (a ∷ []) h = refl
put_none m (a ∷ b ∷ []) h = refl
put_none m (a ∷ b ∷ x ∷ s) h = let z : ⊥ = omega arith in absurd z

pub same_length : (m after m₀ : List ℕ) (a b : ℕ) → after ≡ set m a b → length m ≡ length m₀ → length after ≡ length m₀
same_length m after m₀ a b e h = ap length e ∙ length-set m a b ∙ h

pub turn : (m after whole s : List ℕ) (at a b : ℕ) → at + 2 < length s → a ≡ word_at s at → b ≡ get_or s (at + 2) 0 → after ≡ set m a b →
    with_cells m (drop at s) ≡ whole → with_cells after (drop (at + 3) s) ≡ whole
turn m after whole s at a b h ea eb e known = rw (e, ea, eb) (sym (put_first m s at h) ∙ known)

pub end : (m whole s : List ℕ) (at : ℕ) → length s ≤ at + 2 → with_cells m (drop at s) ≡ whole → m ≡ whole
end m whole s at h known = sym (put_none m (drop at s) (simp length-drop (omega arith))) ∙ known
