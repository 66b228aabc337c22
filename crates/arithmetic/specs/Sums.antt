-- Sums and differences of width w, 8 or 16, with a carry c into them, and the carries and borrows out of their bits.
use Rattle.std.specs.Prelude.{ℕ, ◌+◌, ◌-◌, ◌%◌, ◌^◌, Bool, false, cond, nat_le, nat_lt}
use Rattle.std.specs.Bool.{xor}
use Rattle.numbers.specs.Bits.{flag}
use Rattle.arithmetic.specs.Flags.{with_v, with_c, with_nz}

-- a + m + c modulo 2^w
unfoldable pub sum : ℕ → ℕ → ℕ → Bool → ℕ
sum w a m c = (a + m + flag c) % 2 ^ w

-- the carry out of bit n of a + m + c: bits n to 0 do not hold the sum of the operands' bits n to 0
unfoldable pub carry_out : ℕ → ℕ → ℕ → Bool → Bool
carry_out n a m c = nat_le (2 ^ (n + 1)) (a % 2 ^ (n + 1) + m % 2 ^ (n + 1) + flag c)

-- the borrow out of bit n of a - m - c: bits n to 0 of a are less than what is taken from them
unfoldable pub borrow_out : ℕ → ℕ → ℕ → Bool → Bool
borrow_out n a m c = nat_lt (a % 2 ^ (n + 1)) (m % 2 ^ (n + 1) + flag c)

-- a - m - c; where it borrows, 2^w is added
unfoldable pub difference : ℕ → ℕ → ℕ → Bool → ℕ
difference w a m c = cond (borrow_out (w - 1) a m c) (a + 2 ^ w) a - (m + flag c)

-- V of a sum: the carry out of the top bit against that out of the bit below it
unfoldable pub sum_overflow : ℕ → ℕ → ℕ → Bool → Bool
sum_overflow w a m c = xor (carry_out (w - 1) a m c) (carry_out (w - 2) a m c)

-- V of a difference: the borrows in their place
unfoldable pub difference_overflow : ℕ → ℕ → ℕ → Bool → Bool
difference_overflow w a m c = xor (borrow_out (w - 1) a m c) (borrow_out (w - 2) a m c)

-- CC after a sum and after a difference: V - - - N Z C
unfoldable pub after_sum : ℕ → ℕ → ℕ → Bool → ℕ → ℕ
after_sum w a m c cc = with_v (sum_overflow w a m c) (with_c (carry_out (w - 1) a m c) (with_nz w (sum w a m c) cc))

unfoldable pub after_difference : ℕ → ℕ → ℕ → Bool → ℕ → ℕ
after_difference w a m c cc = with_v (difference_overflow w a m c) (with_c (borrow_out (w - 1) a m c) (with_nz w (difference w a m c) cc))

-- CC after dst + 1 and after dst - 1: V - - - N Z -
unfoldable pub after_increment : ℕ → ℕ → ℕ → ℕ
after_increment w m cc = with_v (sum_overflow w m 1 false) (with_nz w (sum w m 1 false) cc)

unfoldable pub after_decrement : ℕ → ℕ → ℕ → ℕ
after_decrement w m cc = with_v (difference_overflow w m 1 false) (with_nz w (difference w m 1 false) cc)
