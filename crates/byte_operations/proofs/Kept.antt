-- Bit 6, I1 and I0 of CC never change: no operation on bytes, bits or flags puts them in.
use Prim.Native.Nat.{ℕ}
use Rattle.stm8.specs.declared.AluOp.{AluOp}
use Rattle.stm8.specs.declared.AluOp.TheVariants.{Adc, Add, And, Bcp, Cp, Ld, Or, Sbc, Sub, Xor}
use Rattle.stm8.specs.declared.ModifyOp.{ModifyOp}
use Rattle.stm8.specs.declared.ModifyOp.TheVariants.{Clr, Cpl, Dec, Inc, Neg, Rlc, Rrc, Sll, Sra, Srl, Swap, Tnz}
use Rattle.stm8.specs.declared.FlagOp.{FlagOp}
use Rattle.stm8.specs.declared.FlagOp.TheVariants.{Ccf, Rcf, Rvf, Scf}
use Rattle.arithmetic.specs.Flags.{Keeps}
use Rattle.arithmetic.proofs.Kept.{kept-bits}
use Rattle.byte_operations.specs.Accumulator.{added, subtracted, result_nz, alu_result}
use Rattle.byte_operations.specs.Unary.{result_nzc, shifted_left, shifted_right, modify_result}
use Rattle.byte_operations.specs.BitOperations.{bit_tested}
use Rattle.byte_operations.specs.FlagOperations.{flag_result}

pub alu_keeps : (o : AluOp) (a m cc : ℕ) → Keeps cc (alu_result o a m cc).cc
unfolding added subtracted result_nz alu_result
alu_keeps Adc a m cc = simp kept-bits
alu_keeps Add a m cc = simp kept-bits
alu_keeps And a m cc = simp kept-bits
alu_keeps Bcp a m cc = simp kept-bits
alu_keeps Cp a m cc = simp kept-bits
alu_keeps Ld a m cc = simp kept-bits
alu_keeps Or a m cc = simp kept-bits
alu_keeps Sbc a m cc = simp kept-bits
alu_keeps Sub a m cc = simp kept-bits
alu_keeps Xor a m cc = simp kept-bits

pub modify_keeps : (o : ModifyOp) (m cc : ℕ) → Keeps cc (modify_result o m cc).cc
unfolding result_nz result_nzc shifted_left shifted_right modify_result
modify_keeps Clr m cc = simp kept-bits
modify_keeps Cpl m cc = simp kept-bits
modify_keeps Dec m cc = simp kept-bits
modify_keeps Inc m cc = simp kept-bits
modify_keeps Neg m cc = simp kept-bits
modify_keeps Rlc m cc = simp kept-bits
modify_keeps Rrc m cc = simp kept-bits
modify_keeps Sll m cc = simp kept-bits
modify_keeps Sra m cc = simp kept-bits
modify_keeps Srl m cc = simp kept-bits
modify_keeps Swap m cc = simp kept-bits
modify_keeps Tnz m cc = simp kept-bits

pub flag_keeps : (o : FlagOp) (cc : ℕ) → Keeps cc (flag_result o cc)
flag_keeps Ccf cc = simp kept-bits
flag_keeps Rcf cc = simp kept-bits
flag_keeps Rvf cc = simp kept-bits
flag_keeps Scf cc = simp kept-bits

pub bit_test_keeps : (k m cc : ℕ) → Keeps cc (bit_tested k m cc)
bit_test_keeps k m cc = simp kept-bits
