-- The operations on one byte, in document 01's order: the byte and CC after each. A flag that the page's table does not name stays as it was.
use Rattle.std.specs.Prelude.{ℕ, ◌+◌, ◌-◌, ◌*◌, ◌/◌, ◌%◌, Bool, true, false, not, eqb}
use Rattle.numbers.specs.Bits.{flag}
use Rattle.stm8.specs.declared.ModifyOp.{ModifyOp}
use Rattle.stm8.specs.declared.ModifyOp.TheVariants.{Clr, Cpl, Dec, Inc, Neg, Rlc, Rrc, Sll, Sra, Srl, Swap, Tnz}
use Rattle.arithmetic.specs.Bits.{is_set}
use Rattle.arithmetic.specs.Flags.{flag_c, with_v, with_n, with_z, with_c, with_nz}
use Rattle.arithmetic.specs.Sums.{sum, difference, after_increment, after_decrement}
use Rattle.arithmetic.specs.declared.Flagged.{Flagged}
use Rattle.byte_operations.specs.Accumulator.{result_nz}

-- a value and C: - - - - N Z C
unfoldable pub result_nzc : ℕ → Bool → ℕ → Flagged ℕ
result_nzc r c cc = record { value = r; cc = with_c c (with_nz 8 r cc) }

-- one place to the left: a bit enters at 0, and C is bit 7
unfoldable pub shifted_left : ℕ → Bool → ℕ → Flagged ℕ
shifted_left m b cc = result_nzc (m * 2 % 256 + flag b) (is_set 7 m) cc

-- one place to the right: a bit enters at 7, and C is bit 0
unfoldable pub shifted_right : ℕ → Bool → ℕ → Flagged ℕ
shifted_right m b cc = result_nzc (flag b * 128 + m / 2) (is_set 0 m) cc

unfoldable pub modify_result : ModifyOp → ℕ → ℕ → Flagged ℕ
-- 00: - - - - 0 1 -
modify_result Clr m cc = record { value = 0; cc = with_n false (with_z true cc) }
-- FF - dst: - - - - N Z 1
modify_result Cpl m cc = result_nzc (255 - m) true cc
-- dst - 1: V - - - N Z -
modify_result Dec m cc = record { value = difference 8 m 1 false; cc = after_decrement 8 m cc }
-- dst + 1: V - - - N Z -
modify_result Inc m cc = record { value = sum 8 m 1 false; cc = after_increment 8 m cc }
-- 00 - dst: V - - - N Z C, with V where dst was 80, and C unless dst was 00
modify_result Neg m cc =
    record { value = difference 8 0 m false; cc = with_v (eqb m 128) (with_c (not (eqb m 0)) (with_nz 8 (difference 8 0 m false) cc)) }
-- to the left, C enters
modify_result Rlc m cc = shifted_left m (flag_c cc) cc
-- to the right, C enters
modify_result Rrc m cc = shifted_right m (flag_c cc) cc
-- to the left, 0 enters
modify_result Sll m cc = shifted_left m false cc
-- to the right, bit 7 stays
modify_result Sra m cc = shifted_right m (is_set 7 m) cc
-- to the right, 0 enters
modify_result Srl m cc = shifted_right m false cc
-- the nibbles exchanged: - - - - N Z -
modify_result Swap m cc = result_nz (m % 16 * 16 + m / 16) cc
-- dst as it is: - - - - N Z -
modify_result Tnz m cc = result_nz m cc
