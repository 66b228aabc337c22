-- The bytes of an image from its parts.
use Rattle.std.specs.Prelude.{ℕ, List, [], ◌∷◌, ◌++◌, length}
use Rattle.numbers.specs.Ascii.{ascii}
use Rattle.numbers.specs.Words.{high, low}

-- Numbers stand high byte first.
abbrev pub word_bytes : List ℕ → List ℕ
word_bytes [] = []
word_bytes (n ∷ numbers) = high n ∷ low n ∷ word_bytes numbers

-- the three letters SLU, then version, base, routine count, one length per routine, and the code
unfoldable pub image_from : (version base : ℕ) (lengths code : List ℕ) → List ℕ
image_from version base lengths code = ascii "SLU" ++ word_bytes (version ∷ base ∷ []) ++ length lengths ∷ word_bytes lengths ++ code
