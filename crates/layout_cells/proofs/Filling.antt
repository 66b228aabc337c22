-- The cells of a layout: the header's, then where the routines begin, and 0 after them.
use Rattle.std.proofs.Common.{◌≡◌, ℕ, ◌+◌, ◌-◌, ◌<◌, ◌≤◌, List, ◌∷◌, ◌++◌, map, length, get_or, take, drop, replicate, sym, refl, ap, ◌∙◌, arith, le-ltb, lt-ltb, ext_get_or, length-append}
use mathlib.Core.Logic.{by_cases}
use native.Mathlib.Decide.{dec_lt}
use lib.ListN.{length-replicate, get_or-replicate}
use Rattle.std.proofs.lemmas.List.{length-take-le, drop-replicate, get_or_append_left, get_or-append_right, get_or-take}
use Rattle.numbers.specs.Computed.{counting}
use Rattle.numbers.proofs.Computing.{mapped_at, mapped_length}
use Rattle.image.specs.Lengths.{Begins}
use Rattle.image.specs.declared.Layout.{Layout}
use Rattle.layout_cells.specs.Cells.{begin_cell, filled_cells}

module _ (image : List ℕ) (count : ℕ) (begins : List ℕ) (few : count ≤ 32) (size : length begins ≡ 32) (told : Begins image begins count) where
  -- where each of 32 routines begins, of which so many are there
  listed : List ℕ
  listed = map (begin_cell image count) (counting 32 0)

  cell : (j : ℕ) → j < 32 → get_or listed j 0 ≡ begin_cell image count j
  unfolding listed
  cell j below = mapped_at (begin_cell image count) 32 0 j 0 below ∙ ap (begin_cell image count) (omega arith)

  front_size : length (take count begins) ≡ count
  front_size = length-take-le count begins (omega arith)

  placed : List ℕ
  placed = take count begins ++ replicate (32 - count) 0

  at : (j : ℕ) → j < 32 → get_or placed j 0 ≡ get_or listed j 0
  unfolding placed
  at j below =
      by_cases (dec_lt j count)
      (λ h.
      get_or_append_left (take count begins) (replicate (32 - count) 0) 0 j (omega (arith, front_size)) ∙ get_or-take count begins j 0 h ∙ told j h ∙
      sym (cell j below ∙ rw (lt-ltb j count h)))
      (λ h.
      get_or-append_right (take count begins) (replicate (32 - count) 0) count j 0 front_size (omega arith) ∙
      get_or-replicate (32 - count) (j - count) 0 0 (omega arith) ∙
      sym (cell j below ∙ rw (le-ltb j count (omega arith))))

  pub begins_placed : take count begins ++ drop count (replicate 32 0) ≡ map (begin_cell image count) (counting 32 0)
  unfolding placed listed
  begins_placed =
      let sizes : length placed ≡ 32 = simp (length-append, length-replicate) (omega (arith, front_size)) in
      rw (drop-replicate {X = ℕ} count 32 0) (ext_get_or 0 placed listed (sizes ∙ sym (mapped_length (begin_cell image count) 32 0)) (λ j below. at j (omega (arith, sizes))))

-- the header's cells with the routines' put after them
module _ (image : List ℕ) (layout : Layout) (begins : List ℕ) where
  pub cells_filled : {header part : List ℕ} {n : ℕ} → layout.count ≤ 32 → length begins ≡ 32 → Begins image begins layout.count →
      header ≡ layout.version ∷ layout.base ∷ layout.count ∷ layout.code ∷ layout.size ∷ replicate 32 0 → part ≡ take layout.count begins → n ≡ layout.count →
      take 5 header ++ (part ++ drop n (drop 5 header)) ≡ filled_cells image layout
  unfolding filled_cells
  cells_filled few size told is there count = rw (is, there, count, begins_placed image layout.count begins few size told)
