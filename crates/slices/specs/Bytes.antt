-- A part of a list of bytes, and where a byte stands first in one.
use Rattle.std.specs.Prelude.{ℕ, suc, Bool, true, false, List, [], ◌∷◌, ◌==◌, take, drop}

-- the elements from one index up to another
unfoldable pub slice : ℕ → ℕ → List ℕ → List ℕ
slice from to s = drop from (take to s)

-- the index in a list, where the rest has this index and the first element is the one sought or not
unfoldable pub index_after : Bool → ℕ → ℕ
index_after true _ = 0
index_after false n = suc n

-- the index of the first element that is b, or the length where none is
unfoldable pub index_of : ℕ → List ℕ → ℕ
index_of b [] = 0
index_of b (c ∷ s) = index_after (c == b) (index_of b s)
