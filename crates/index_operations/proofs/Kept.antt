-- Bit 6, I1 and I0 of CC never change: no operation on an index register puts them in.
use Prim.Native.Nat.{ℕ}
use Rattle.stm8.specs.declared.WordAluOp.{WordAluOp}
use Rattle.stm8.specs.declared.WordAluOp.TheVariants.{Addw, Cpw, Subw}
use Rattle.stm8.specs.declared.WordModifyOp.{WordModifyOp}
use Rattle.stm8.specs.declared.WordModifyOp.TheVariants.{Clrw, Decw, Incw}
use Rattle.arithmetic.specs.Flags.{Keeps}
use Rattle.arithmetic.proofs.Kept.{kept-bits}
use Rattle.index_operations.specs.Words.{ldw_result, word_alu_result, word_modify_result, mul_result}

pub ldw_keeps : (m cc : ℕ) → Keeps cc (ldw_result m cc).cc
unfolding ldw_result
ldw_keeps m cc = simp kept-bits

pub word_alu_keeps : (o : WordAluOp) (x m cc : ℕ) → Keeps cc (word_alu_result o x m cc).cc
unfolding word_alu_result
word_alu_keeps Addw x m cc = simp kept-bits
word_alu_keeps Cpw x m cc = simp kept-bits
word_alu_keeps Subw x m cc = simp kept-bits

pub word_modify_keeps : (o : WordModifyOp) (x cc : ℕ) → Keeps cc (word_modify_result o x cc).cc
unfolding word_modify_result
word_modify_keeps Clrw x cc = simp kept-bits
word_modify_keeps Decw x cc = simp kept-bits
word_modify_keeps Incw x cc = simp kept-bits

pub mul_keeps : (x a cc : ℕ) → Keeps cc (mul_result x a cc).cc
unfolding mul_result
mul_keeps x a cc = simp kept-bits
