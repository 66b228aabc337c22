-- A part of a list of bytes is one.
use Prim.Native.Nat.{ℕ, zero, suc, ◌+◌}
use mathlib.Core.List.{List, [], ◌∷◌}
use native.Mathlib.Omega.{arith}
use lib.ListN.{take, drop}
use lib.Seq.{get_or-drop}
use Rattle.numbers.specs.Lists.{Bytes}

pub bytes_taken : (n : ℕ) (s : List ℕ) → Bytes s → Bytes (take n s)
bytes_taken zero s h k = omega arith
bytes_taken (suc n) [] h k = omega arith
bytes_taken (suc n) (b ∷ s) h zero = h zero
bytes_taken (suc n) (b ∷ s) h (suc k) = bytes_taken n s (λ j. h (suc j)) k

pub bytes_dropped : (n : ℕ) (s : List ℕ) → Bytes s → Bytes (drop n s)
bytes_dropped n s h k = rw (get_or-drop n s k 0) (h (n + k))
