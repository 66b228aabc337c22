-- What the code goes by: a line's bytes together, and bytes put into a buffer.
use Rattle.std.specs.Prelude.{ℕ, ◌+◌, ◌%◌, Bool, false, not, List, [], ◌∷◌, ◌++◌, eqb, length, take, drop}
use Rattle.numbers.specs.Folds.{total}
use Rattle.hex_records.specs.Digits.{all_bytes}
use Rattle.hex_records.specs.declared.Summed.{Summed}

-- whether a last character stands alone that is no CR
unfoldable pub lone : List ℕ → Bool
lone [] = false
lone (c ∷ []) = not (eqb c 0x0D)
lone (c ∷ d ∷ rest) = lone rest

unfoldable pub summed_of : List ℕ → Summed
summed_of bytes = record { sum = total bytes % 256; good = all_bytes bytes }

-- a buffer with a list put into it at an index; the bytes before it and past it stay
abbrev pub put_at : List ℕ → ℕ → List ℕ → List ℕ
put_at out n s = take n out ++ (s ++ drop (n + length s) out)
