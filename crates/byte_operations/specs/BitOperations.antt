-- The operations on the bit of a byte at a position, and the jumps by it.
use Rattle.std.specs.Prelude.{ℕ, Bool, true, false, not}
use Rattle.stm8.specs.declared.BitOp.{BitOp}
use Rattle.stm8.specs.declared.BitOp.TheVariants.{Bccm, Bcpl, Bres, Bset}
use Rattle.stm8.specs.declared.BitTest.{BitTest}
use Rattle.stm8.specs.declared.BitTest.TheVariants.{Btjf, Btjt}
use Rattle.arithmetic.specs.Bits.{is_set, with_bit}
use Rattle.arithmetic.specs.Flags.{flag_c, with_c}

-- the byte with the bit a copy of C, complemented, reset, set; no flag is affected
abbrev pub bit_result : BitOp → ℕ → ℕ → ℕ → ℕ
bit_result Bccm k m cc = with_bit k (flag_c cc) m
bit_result Bcpl k m cc = with_bit k (not (is_set k m)) m
bit_result Bres k m cc = with_bit k false m
bit_result Bset k m cc = with_bit k true m

-- BTJT jumps where the bit is 1, BTJF where it is 0
abbrev pub bit_holds : BitTest → ℕ → ℕ → Bool
bit_holds Btjt k m = is_set k m
bit_holds Btjf k m = not (is_set k m)

-- CC after BTJT and BTJF, whether or not they jump: - - - - - - C, with C the tested bit
abbrev pub bit_tested : ℕ → ℕ → ℕ → ℕ
bit_tested k m cc = with_c (is_set k m) cc
