-- An image and the limits, as document 01 lays them out. Numbers stand high byte first.
use Rattle.std.specs.Prelude.{ℕ, ◌+◌, ◌-◌, ◌*◌, List, map, take, drop, slice_index}
use Rattle.numbers.specs.Computed.{counting}
use Rattle.numbers.specs.Folds.{total}
use Rattle.numbers.specs.Words.{word_at}
use Rattle.image.specs.declared.Area.{Area}
use Rattle.image.specs.declared.Limits.{Limits}
use Rattle.image.specs.declared.Layout.{Layout}

-- After the three letters SLU: version,
unfoldable pub version_of : List ℕ → ℕ
version_of image = word_at image 3

-- base (16 bits),
unfoldable pub base_of : List ℕ → ℕ
base_of image = word_at image 5

-- routine count (8 bits),
unfoldable pub count_of : List ℕ → ℕ
count_of image = slice_index image 7

-- one 16-bit length per routine,
unfoldable pub lengths_of : List ℕ → List ℕ
lengths_of image = map (λ k. word_at image (8 + 2 * k)) (counting (count_of image) 0)

-- the length of routine k, 0 past the list
unfoldable pub length_at : List ℕ → ℕ → ℕ
length_at image k = slice_index (lengths_of image) k

-- and the code: the index of its first byte, its bytes, and how many the routines have together.
unfoldable pub code_at : List ℕ → ℕ
code_at image = 8 + 2 * count_of image

unfoldable pub code_of : List ℕ → List ℕ
code_of image = drop (code_at image) image

unfoldable pub size_of : List ℕ → ℕ
size_of image = total (lengths_of image)

unfoldable pub layout_of : List ℕ → Layout
layout_of image = record { version = version_of image; base = base_of image; count = count_of image; code = code_at image; size = size_of image }

-- Routines lie in table order: where routine k begins and ends, as offsets from the first code byte;
unfoldable pub start_of : List ℕ → ℕ → ℕ
start_of image k = total (take k (lengths_of image))

unfoldable pub end_of : List ℕ → ℕ → ℕ
end_of image k = start_of image k + length_at image k

-- the last one is main
unfoldable pub main_of : List ℕ → ℕ
main_of image = count_of image - 1

-- Limits: grant low and high, stack low and high, second grant low and high, 16 bits each, ends included.
abbrev pub area_at : List ℕ → ℕ → Area
area_at bytes at = record { low = word_at bytes at; high = word_at bytes (at + 2) }

unfoldable pub limits_of : List ℕ → Limits
limits_of bytes = record { grant = area_at bytes 0; stack = area_at bytes 4; second = area_at bytes 8 }
