-- The operations on an index register: the word and CC after each. A flag that the page's table does not name stays as it was.
use Rattle.std.specs.Prelude.{ℕ, ◌*◌, true, false}
use Rattle.numbers.specs.Words.{low}
use Rattle.stm8.specs.declared.WordAluOp.{WordAluOp}
use Rattle.stm8.specs.declared.WordAluOp.TheVariants.{Addw, Cpw, Subw}
use Rattle.stm8.specs.declared.WordModifyOp.{WordModifyOp}
use Rattle.stm8.specs.declared.WordModifyOp.TheVariants.{Clrw, Decw, Incw}
use Rattle.arithmetic.specs.Flags.{with_h, with_n, with_z, with_c, with_nz}
use Rattle.arithmetic.specs.Sums.{sum, carry_out, difference, borrow_out, after_sum, after_difference, after_increment, after_decrement}
use Rattle.arithmetic.specs.declared.Flagged.{Flagged}

-- LDW: src: - - - - N Z -
unfoldable pub ldw_result : ℕ → ℕ → Flagged ℕ
ldw_result m cc = record { value = m; cc = with_nz 16 m cc }

unfoldable pub word_alu_result : WordAluOp → ℕ → ℕ → ℕ → Flagged ℕ
-- dst + src: V - H - N Z C, with H the carry out of bit 7
word_alu_result Addw x m cc = record { value = sum 16 x m false; cc = with_h (carry_out 7 x m false) (after_sum 16 x m false cc) }
-- dst - src, and the result is lost: V - - - N Z C
word_alu_result Cpw x m cc = record { value = x; cc = after_difference 16 x m false cc }
-- dst - src: V - H - N Z C, with H the borrow out of bit 7
word_alu_result Subw x m cc = record { value = difference 16 x m false; cc = with_h (borrow_out 7 x m false) (after_difference 16 x m false cc) }

unfoldable pub word_modify_result : WordModifyOp → ℕ → ℕ → Flagged ℕ
-- 0000: - - - - 0 1 -
word_modify_result Clrw x cc = record { value = 0; cc = with_n false (with_z true cc) }
-- dst - 1: V - - - N Z -
word_modify_result Decw x cc = record { value = difference 16 x 1 false; cc = after_decrement 16 x cc }
-- dst + 1: V - - - N Z -
word_modify_result Incw x cc = record { value = sum 16 x 1 false; cc = after_increment 16 x cc }

-- MUL: the register's low byte times A, its high byte ignored: - - 0 - - - 0
unfoldable pub mul_result : ℕ → ℕ → ℕ → Flagged ℕ
mul_result x a cc = record { value = low x * a; cc = with_h false (with_c false cc) }
