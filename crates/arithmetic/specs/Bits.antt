-- The bits of a byte and of CC.
use Rattle.std.specs.Prelude.{ℕ, ◌+◌, ◌*◌, ◌/◌, ◌%◌, ◌^◌, Bool, cond, ◌==◌, nat_lt}
use Rattle.numbers.specs.Bits.{flag, bit}

-- whether bit k of a number is set
abbrev pub is_set : ℕ → ℕ → Bool
is_set k n = bit k n == 1

-- a byte with bit k put in, the bits above and below it as they were; a byte has no bit above 7, and there nothing changes
unfoldable pub with_bit : ℕ → Bool → ℕ → ℕ
with_bit k b n = cond (nat_lt k 8) (n / 2 ^ (k + 1) * 2 ^ (k + 1) + flag b * 2 ^ k + n % 2 ^ k) n
