-- What whoever indexes by a valid layout goes by. No public contract cites it.
use Rattle.std.specs.Prelude.{◌≡◌, ℕ, ◌+◌, ◌*◌, ◌<◌, ◌≤◌, List, length}
use Rattle.image.specs.Image.{code_of, layout_of, start_of, end_of, main_of}
use Rattle.image.specs.declared.Layout.{Layout}

pub record ValidLayout (image : List ℕ) (layout : Layout) : Type 0 where
  pub is : layout ≡ layout_of image
  pub count : (1 ≤ layout.count) × (layout.count ≤ 32)
  pub header : layout.code ≡ 8 + 2 * layout.count
  pub end : layout.code + layout.size ≡ length image
  pub code : length (code_of image) ≡ layout.size
  pub size : (1 ≤ layout.size) × (layout.size ≤ 4096)
  pub base : 0x8000 ≤ layout.base
  pub top : layout.base + layout.size ≤ 0x10000
  -- a routine has a byte and lies inside the code, and main ends with the code
  pub begins : (k : ℕ) → k < layout.count → start_of image k < end_of image k
  pub ends : (k : ℕ) → k < layout.count → end_of image k ≤ layout.size
  pub main : end_of image (main_of image) ≡ layout.size
