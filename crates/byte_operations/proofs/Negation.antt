-- NEG's V and C, which its page gives by the operand, are those of the difference 00 - dst.
use Prim.Native.Nat.{ℕ, ◌<◌}
use mathlib.Core.Path.{◌≡◌, refl}
use mathlib.Core.Bool.{false, not, xor}
use lib.Dec.{eqb}
use Rattle.numbers.proofs.Computing.{below}
use Rattle.stm8.specs.declared.AluOp.TheVariants.{Sub}
use Rattle.stm8.specs.declared.ModifyOp.TheVariants.{Neg}
use Rattle.arithmetic.specs.Sums.{borrow_out, difference_overflow, after_difference}
use Rattle.byte_operations.specs.Accumulator.{subtracted, alu_result}
use Rattle.byte_operations.specs.Unary.{modify_result}

overflow : (m : ℕ) → m < 256 → difference_overflow 8 0 m false ≡ eqb m 128
unfolding difference_overflow borrow_out xor
overflow = below 255 (λ m. difference_overflow 8 0 m false) (λ m. eqb m 128) refl

borrow : (m : ℕ) → m < 256 → borrow_out 7 0 m false ≡ not (eqb m 0)
unfolding borrow_out
borrow = below 255 (λ m. borrow_out 7 0 m false) (λ m. not (eqb m 0)) refl

-- NEG is SUB from 00
pub neg_difference : (m cc : ℕ) → m < 256 → modify_result Neg m cc ≡ alu_result Sub 0 m cc
unfolding modify_result alu_result subtracted after_difference
neg_difference m cc h = rw (overflow m h, borrow m h)
