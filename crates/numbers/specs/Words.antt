-- A word and its two bytes, high byte first.
use Rattle.std.specs.Prelude.{ℕ, ◌+◌, ◌*◌, ◌/◌, ◌%◌, List, get_or}

unfoldable pub word : ℕ → ℕ → ℕ
word h l = h * 256 + l

unfoldable pub high : ℕ → ℕ
high w = w / 256

unfoldable pub low : ℕ → ℕ
low w = w % 256

-- the word at an index; a byte past the end counts as 0
unfoldable pub word_at : List ℕ → ℕ → ℕ
word_at s at = word (get_or s at 0) (get_or s (at + 1) 0)
