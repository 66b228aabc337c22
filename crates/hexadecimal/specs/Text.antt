-- Hexadecimal text: two digits, 0 to 9 and A to F, to a byte.
use Rattle.std.specs.Prelude.{ℕ, ◌+◌, ◌-◌, ◌*◌, cond, List, [], ◌∷◌, leb, ltb}

-- the value of a digit, 16 for any other character
unfoldable pub digit : ℕ → ℕ
digit c =
    cond (ltb c 0x30) 16
    (cond (leb c 0x39) (c - 0x30)
    (cond (ltb c 0x41) 16
    (cond (leb c 0x46) (c - 0x41 + 10) 16)))

-- the byte of two digits, 256 where one of the characters is none
unfoldable pub pair : ℕ → ℕ → ℕ
pair c d = cond (ltb (digit c) 16) (cond (ltb (digit d) 16) (digit c * 16 + digit d) 256) 256

-- the bytes that a text spells; a character that is no digit with its neighbour is passed over
unfoldable pub spelled : List ℕ → List ℕ
spelled [] = []
spelled (c ∷ []) = []
spelled (c ∷ d ∷ rest) = cond (ltb (pair c d) 256) (pair c d ∷ spelled rest) (spelled (d ∷ rest))
