-- The three ways of a data read.
use Prim.Native.Nat.{ℕ, ◌+◌, ◌-◌, ◌≤◌, ◌<◌}
use mathlib.Core.Path.{◌≡◌}
use mathlib.Core.List.{List}
use borrow.Author.Tests.{lt-ltb, le-ltb}
use lib.ListN.{get_or}
use lib.Seq.{get_or-drop}
use Rattle.image.specs.Image.{base_of, code_at, code_of}
use Rattle.storage.specs.Reading.{read_byte}

module _ (image memory : List ℕ) (address : ℕ) where
  pub from_memory : address < 0x8000 → read_byte image memory address ≡ get_or memory address 0
  unfolding read_byte
  from_memory h = rw (lt-ltb address 0x8000 h)

  pub below_code : 0x8000 ≤ address → (base : ℕ) → base ≡ base_of image → address < base → read_byte image memory address ≡ 0
  unfolding read_byte
  below_code h base e k = rw (le-ltb address 0x8000 h, ← e, lt-ltb address base k)

  pub from_code : 0x8000 ≤ address → (base code : ℕ) → base ≡ base_of image → code ≡ code_at image → base ≤ address →
      read_byte image memory address ≡ get_or image (code + (address - base)) 0
  unfolding read_byte code_of
  from_code h base code e f k = rw (le-ltb address 0x8000 h, ← e, le-ltb address base k, get_or-drop, ← f)
