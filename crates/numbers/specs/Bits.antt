-- The bits of a number.
use Rattle.std.specs.Prelude.{ℕ, ◌/◌, ◌%◌, ◌^◌, Bool, cond}

-- 1 where the test holds, else 0
abbrev pub flag : Bool → ℕ
flag holds = cond holds 1 0

-- bit k of a number
unfoldable pub bit : ℕ → ℕ → ℕ
bit k n = n / 2 ^ k % 2
