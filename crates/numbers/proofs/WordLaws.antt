-- A word and its two bytes, there and back.
use mathlib.Core.Path.{◌≡◌}
use Prim.Native.Nat.{ℕ, ◌<◌}
use native.Mathlib.Omega.{arith}
use Rattle.numbers.specs.Words.{word, high, low}

pub high_word : (h l : ℕ) → l < 256 → high (word h l) ≡ h
unfolding high word
high_word h l fits = omega arith

pub low_word : (h l : ℕ) → l < 256 → low (word h l) ≡ l
unfolding low word
low_word h l fits = omega arith

pub word_high_low : (w : ℕ) → word (high w) (low w) ≡ w
unfolding high low word
word_high_low w = omega arith
