-- What a caller in C gets of an image by itself, with no limits.
use Rattle.std.specs.Prelude.{ℕ, cond, List, ◌∷◌, map, ltb, replicate}
use Rattle.numbers.specs.Computed.{counting}
use Rattle.image.specs.Image.{start_of}
use Rattle.image.specs.declared.Layout.{Layout}
use Rattle.image.specs.Validated.{Validated, Refused, Valid}

-- where routine k of so many begins, as an offset from the first code byte; 0 past the routines
abbrev pub begin_cell : List ℕ → ℕ → ℕ → ℕ
begin_cell image count k = cond (ltb k count) (start_of image k) 0

-- the cells: version, base, how many routines, the index of the first code byte, how many code bytes, and where each of 32 routines begins
unfoldable pub filled_cells : List ℕ → Layout → List ℕ
filled_cells image layout =
    layout.version ∷
    layout.base ∷
    layout.count ∷
    layout.code ∷
    layout.size ∷
    map (begin_cell image layout.count) (counting 32 0)

abbrev pub layout_cells : List ℕ → Validated → List ℕ
layout_cells image (Refused number) = replicate 37 0
layout_cells image (Valid layout) = filled_cells image layout
