-- The length list in one pass: a state of fixed size that is fed each length once, in table order.
use Rattle.std.specs.Prelude.{◌≡◌, ℕ, ◌+◌, ◌%◌, ◌<◌, true, false, cond, List, length, ◌==◌, slice_index}
use mathlib.Core.List.{foldl}
use Rattle.image.specs.Image.{start_of}
use Rattle.image.specs.declared.lengths.LengthState.{LengthState}

-- before any length: their sum, and whether one was 0,
abbrev pub unfed : LengthState
unfed = record { sum = 0; empty = false }

-- after one more,
abbrev pub fed : LengthState → ℕ → LengthState
fed state length = record { sum = state.sum + length; empty = cond (length == 0) true state.empty }

-- and after a list
unfoldable pub after_all : List ℕ → LengthState
after_all lengths = foldl fed unfed lengths

-- a state whose sum has 32 bits: the sum is whole where it is under 2^32
abbrev pub cut : LengthState → LengthState
cut state = record { sum = state.sum % 0x100000000; empty = state.empty }

-- some length of a list is 0
abbrev pub SomeZero : List ℕ → Type 0
SomeZero lengths = (k : ℕ) × (k < length lengths) × (slice_index lengths k ≡ 0)

-- where the routines before r begin, to 16 bits, of 32 at most; and where no bit is cut off
abbrev pub BeginsTo16 : List ℕ → List ℕ → ℕ → Type 0
BeginsTo16 image begins r = (k : ℕ) → k < r → k < 32 → slice_index begins k ≡ start_of image k % 0x10000

abbrev pub Begins : List ℕ → List ℕ → ℕ → Type 0
Begins image begins r = (k : ℕ) → k < r → slice_index begins k ≡ start_of image k
