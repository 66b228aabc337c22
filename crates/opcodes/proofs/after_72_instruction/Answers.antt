-- `opcodes::after_72_instruction` meets its contract.
use mathlib.Core.Path.{refl}
use mathlib.Core.List.{[], ◌∷◌}
use Rattle.numbers.specs.Words.{word, high, low}
use Rattle.numbers.proofs.WordLaws.{word_high_low}
use Rattle.stm8.specs.OpcodeMap.{two, after72_page}
use Rattle.stm8.specs.declared.Register.TheVariants.{Y}
use Rattle.stm8.specs.declared.WordAluOp.TheVariants.{Addw, Subw}
use Rattle.stm8.specs.declared.Instruction.TheVariants.{WordAlu}
use Rattle.opcodes.specs.Entries.{in_row, on_page}
use Rattle.opcodes.proofs.Arms.{last_row}
use Rattle.opcodes.proofs.after_72_instruction.Goals as goal

pub returns-in-0 : goal.returns-in-0
unfolding in_row on_page
returns-in-0 c = rw (c.in-0.is, word_high_low c.args.ab) c.bit_jump_row.ensures

pub returns-in-1 : goal.returns-in-1
unfolding in_row on_page
returns-in-1 c = rw (c.in-1.is, word_high_low c.args.ab) c.bit_row.ensures

pub returns-in-5 : goal.returns-in-5
unfolding in_row on_page
returns-in-5 c = rw (c.in-5.is, word_high_low c.args.ab) c.row_72_5.ensures

pub returns-in_default : goal.returns-in_default
unfolding in_row on_page
returns-in_default c = let w = word (high c.args.ab) (low c.args.ab) in
    last_row 10 (two 2 (WordAlu Subw Y w) 9 (WordAlu Addw Y w)) (after72_page (high c.args.ab) (low c.args.ab) c.args.c)
    (5 ∷ 1 ∷ 0 ∷ []) refl c.args.op _ c.ranges.op.fits c.in_default.in_default-own.rest (rw (word_high_low c.args.ab) c.row_72_a.ensures)
