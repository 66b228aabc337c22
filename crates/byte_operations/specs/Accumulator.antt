-- The operations on A with an operand, in document 01's order: A and CC after each. A flag that the page's table does not name stays as it was.
use Rattle.std.specs.Prelude.{ℕ, Bool, false}
use Rattle.std.specs.Int.Bits.{bit_and, bit_or, bit_xor}
use Rattle.stm8.specs.declared.AluOp.{AluOp}
use Rattle.stm8.specs.declared.AluOp.TheVariants.{Adc, Add, And, Bcp, Cp, Ld, Or, Sbc, Sub, Xor}
use Rattle.arithmetic.specs.Flags.{flag_c, with_h, with_nz}
use Rattle.arithmetic.specs.Sums.{sum, carry_out, difference, after_sum, after_difference}
use Rattle.arithmetic.specs.declared.Flagged.{Flagged}

-- A + src + c: V - H - N Z C, with H the carry out of bit 3
unfoldable pub added : ℕ → ℕ → Bool → ℕ → Flagged ℕ
added a m c cc = record { value = sum 8 a m c; cc = with_h (carry_out 3 a m c) (after_sum 8 a m c cc) }

-- A - src - c: V - - - N Z C
unfoldable pub subtracted : ℕ → ℕ → Bool → ℕ → Flagged ℕ
subtracted a m c cc = record { value = difference 8 a m c; cc = after_difference 8 a m c cc }

-- a value: - - - - N Z -
unfoldable pub result_nz : ℕ → ℕ → Flagged ℕ
result_nz r cc = record { value = r; cc = with_nz 8 r cc }

unfoldable pub alu_result : AluOp → ℕ → ℕ → ℕ → Flagged ℕ
-- A + src + C
alu_result Adc a m cc = added a m (flag_c cc) cc
-- A + src
alu_result Add a m cc = added a m false cc
-- A AND src
alu_result And a m cc = result_nz (bit_and a m) cc
-- A AND src, and the result is lost: - - - - N Z -
alu_result Bcp a m cc = record { value = a; cc = with_nz 8 (bit_and a m) cc }
-- A - src, and the result is lost: V - - - N Z C
alu_result Cp a m cc = record { value = a; cc = after_difference 8 a m false cc }
-- src
alu_result Ld a m cc = result_nz m cc
-- A OR src
alu_result Or a m cc = result_nz (bit_or a m) cc
-- A - src - C
alu_result Sbc a m cc = subtracted a m (flag_c cc) cc
-- A - src
alu_result Sub a m cc = subtracted a m false cc
-- A XOR src
alu_result Xor a m cc = result_nz (bit_xor a m) cc
