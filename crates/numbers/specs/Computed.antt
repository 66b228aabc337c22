-- Tables that are computed from a function.
use Rattle.std.specs.Prelude.{ℕ, zero, suc, List, [], ◌∷◌, map}

-- the n numbers from i on
abbrev pub counting : ℕ → ℕ → List ℕ
counting zero i = []
counting (suc n) i = i ∷ counting n (suc i)

-- the table of f at 0 to 255
abbrev pub table : {B : Type 0} → (ℕ → B) → List B
table f = map f (counting 256 0)
