-- What is left of the routines on the stack, by PC and the book of calls: of the one that runs, and of its callers from the addresses after their calls on.
use Prim.Native.Nat.{ℕ, ◌+◌, ◌<◌, ◌≤◌}
use mathlib.Core.Path.{◌≡◌}
use mathlib.Core.List.{List, [], ◌∷◌}
use Rattle.image.specs.Image.{base_of, count_of}
use Rattle.code.specs.Code.{Start}
use Rattle.finishing.proofs.Left.{left_in}

pub data LeftToCallers (image : List ℕ) : List ℕ → ℕ → Type 0 where
  nobody : LeftToCallers image [] 0
  caller : {r o v address : ℕ} {book : List ℕ} → r < count_of image → Start image r o → address ≡ base_of image + o → LeftToCallers image book v →
      LeftToCallers image (address ∷ book) (left_in image r o + v)

-- so many steps or fewer
pub data Remains (image : List ℕ) (pc : ℕ) (book : List ℕ) (most : ℕ) : Type 0 where
  finished : pc ≡ 0 → Remains image pc book most
  running : {r o v : ℕ} → r < count_of image → Start image r o → pc ≡ base_of image + o → LeftToCallers image book v → left_in image r o + v ≤ most →
      Remains image pc book most
