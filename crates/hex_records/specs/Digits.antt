-- Bytes as two hexadecimal digits each: written in upper case, read in either.
use Rattle.std.specs.Prelude.{ℕ, ◌+◌, ◌-◌, ◌*◌, ◌/◌, ◌%◌, ◌<◌, Bool, true, false, cond, List, [], ◌∷◌, eqb, leb, ltb}
use Rattle.hexadecimal.specs.Text.{pair}

-- a digit and its value: 0 to 9, A to F, a to f
pub data Digit : ℕ → ℕ → Type 0 where
  decimal : {n : ℕ} → n < 10 → Digit (0x30 + n) n
  upper : {n : ℕ} → n < 6 → Digit (0x41 + n) (10 + n)
  lower : {n : ℕ} → n < 6 → Digit (0x61 + n) (10 + n)

-- digits that spell bytes, two each
pub data Spells : List ℕ → List ℕ → Type 0 where
  none : Spells [] []
  more : {c d h l : ℕ} {digits bytes : List ℕ} → Digit c h → Digit d l → Spells digits bytes → Spells (c ∷ d ∷ digits) ((h * 16 + l) ∷ bytes)

-- a to f as A to F, any other character as it is; so the byte of two digits in either case, 256 where one of the characters is none
unfoldable pub capital : ℕ → ℕ
capital c = cond (ltb c 0x61) c (cond (leb c 0x66) (c - 0x20) c)

unfoldable pub byte_of : ℕ → ℕ → ℕ
byte_of c d = pair (capital c) (capital d)

-- the bytes that the characters of a line spell, 256 for two that spell none and for a last one alone; a CR may stand last
unfoldable pub pairs : List ℕ → List ℕ
pairs [] = []
pairs (c ∷ []) = cond (eqb c 0x0D) [] (256 ∷ [])
pairs (c ∷ d ∷ rest) = byte_of c d ∷ pairs rest

unfoldable pub all_bytes : List ℕ → Bool
all_bytes [] = true
all_bytes (b ∷ bytes) = cond (ltb b 256) (all_bytes bytes) false

-- the digit of a number under 16, and the digits of bytes
unfoldable pub digit_of : ℕ → ℕ
digit_of n = cond (ltb n 10) (0x30 + n) (0x37 + n)

unfoldable pub spelled : List ℕ → List ℕ
spelled [] = []
spelled (b ∷ bytes) = digit_of (b / 16) ∷ digit_of (b % 16) ∷ spelled bytes
