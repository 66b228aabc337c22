-- The bytes after an op-code, from the words that hold them.
use Prim.Native.Nat.{ℕ, ◌+◌, ◌*◌, ◌/◌, ◌%◌, ◌<◌}
use mathlib.Core.Path.{◌≡◌, ap}
use mathlib.Core.List.{List}
use native.Mathlib.Omega.{arith}
use lib.ListN.{get_or}
use Rattle.numbers.specs.Lists.{Bytes}
use Rattle.numbers.specs.Words.{word, high, low, word_at}
use Rattle.numbers.proofs.WordLaws.{high_word, low_word}

-- the second of two words
pub word_after : (s : List ℕ) (at : ℕ) → word (get_or s (at + 2) 0) (get_or s (at + 3) 0) ≡ word_at s (at + 2)
unfolding word_at
word_after s at = let e : at + 3 ≡ at + 2 + 1 = omega arith in ap (λ k. word (get_or s (at + 2) 0) (get_or s k 0)) e

module _ (s : List ℕ) (bytes : Bytes s) (at : ℕ) where
  pub high_at : {w : ℕ} → w ≡ word_at s at → high w ≡ get_or s at 0
  unfolding word_at
  high_at e = rw e (high_word (get_or s at 0) (get_or s (at + 1) 0) (bytes (at + 1)))

  pub low_at : {w : ℕ} → w ≡ word_at s at → low w ≡ get_or s (at + 1) 0
  unfolding word_at
  low_at e = rw e (low_word (get_or s at 0) (get_or s (at + 1) 0) (bytes (at + 1)))

  -- two words in one number
  second_below : word_at s (at + 2) < 0x10000
  unfolding word_at word
  second_below = omega (arith, bytes (at + 2), bytes (at + 2 + 1))

  module _ {both : ℕ} (joined : both ≡ word_at s at * 0x10000 + word_at s (at + 2)) where
    pub first_at_lem : {w : ℕ} → w ≡ both / 0x10000 → w ≡ word_at s at
    first_at_lem e = omega (arith, second_below, joined, e)

    pub second_at : {w : ℕ} → w ≡ both % 0x10000 → w ≡ word_at s (at + 2)
    second_at e = omega (arith, second_below, joined, e)
