-- How many starts there are up to an offset.
use Prim.Native.Nat.{ℕ, zero, suc, ◌+◌, ◌-◌, ◌≤◌}
use mathlib.Core.Path.{◌≡◌}
use mathlib.Core.Bool.{Bool, true, false}
use native.Mathlib.Omega.{arith}
use lib.Dec.{ltb}
use borrow.Author.Tests.{lt-ltb}
use Rattle.numbers.specs.Bits.{flag}
use Rattle.control_flow.specs.Routine.{count_from}

flag_most : (b : Bool) → flag b ≤ 1
flag_most true = omega arith
flag_most false = omega arith

pub count_most : (starts : ℕ → ℕ) (from n : ℕ) → count_from starts from n ≤ n
unfolding count_from
count_most starts from zero = omega arith
count_most starts from (suc n) = omega (arith, count_most starts from n, flag_most (ltb 0 (starts (from + n))))

-- one offset more, by whether it is a start
module _ (starts : ℕ → ℕ) (from at : ℕ) (low : from ≤ at) where
  next : at + 1 - from ≡ suc (at - from)
  next = omega arith

  here : from + (at - from) ≡ at
  here = omega arith

  pub count_start : 1 ≤ starts at → count_from starts from (at + 1 - from) ≡ count_from starts from (at - from) + 1
  unfolding count_from
  count_start is = rw (next, here, lt-ltb 0 (starts at) is)

  pub count_other : starts at ≡ 0 → count_from starts from (at + 1 - from) ≡ count_from starts from (at - from)
  unfolding count_from
  count_other none = rw (next, here, none) (omega arith)
