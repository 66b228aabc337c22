-- `opcodes::after_90_instruction` meets its contract.
use mathlib.Core.Path.{refl}
use mathlib.Core.List.{[], ◌∷◌}
use Rattle.numbers.specs.Words.{high, low}
use Rattle.numbers.proofs.WordLaws.{word_high_low}
use Rattle.stm8.specs.OpcodeMap.{indexed_row, after90_page}
use Rattle.stm8.specs.declared.Register.TheVariants.{Y}
use Rattle.stm8.specs.declared.Offset.TheVariants.{Zero}
use Rattle.stm8.specs.declared.Operand.TheVariants.{Indexed}
use Rattle.opcodes.specs.Entries.{in_row, on_page}
use Rattle.opcodes.proofs.Arms.{last_row}
use Rattle.opcodes.proofs.after_90_instruction.Goals as goal

pub returns-in-1 : goal.returns-in-1
unfolding in_row on_page
returns-in-1 c = rw (c.in-1.is, word_high_low c.args.ab) c.bit_row.ensures

pub returns-in-4 : goal.returns-in-4
unfolding in_row on_page
returns-in-4 c = rw c.in-4.is (c.row_90_4.ensures c.args.op)

pub returns-in-5 : goal.returns-in-5
unfolding in_row on_page
returns-in-5 c = rw c.in-5.is c.register_row_5.ensures

pub returns-in-8 : goal.returns-in-8
unfolding in_row on_page
returns-in-8 c = rw c.in-8.is c.register_row_8.ensures

pub returns-in-9 : goal.returns-in-9
unfolding in_row on_page
returns-in-9 c = rw c.in-9.is c.register_row_9.ensures

pub returns-in-10 : goal.returns-in-10
unfolding in_row on_page
returns-in-10 c = rw (c.in-10.is, word_high_low c.args.ab) c.row_90_a.ensures

pub returns-in-12 : goal.returns-in-12
unfolding in_row on_page
returns-in-12 c = rw (c.in-12.is, word_high_low c.args.ab) c.row_90_c.ensures

pub returns-in-13 : goal.returns-in-13
unfolding in_row on_page
returns-in-13 c = rw (c.in-13.is, word_high_low c.args.ab) c.long_offset_row.ensures

pub returns-in-14 : goal.returns-in-14
unfolding in_row on_page
returns-in-14 c = rw (c.in-14.is, ← c.high.ensures) c.short_offset_row.ensures

pub returns-in_default : goal.returns-in_default
unfolding in_row on_page
returns-in_default c = last_row 15 (indexed_row (Indexed Y Zero)) (after90_page (high c.args.ab) (low c.args.ab)) (14 ∷ 13 ∷ 12 ∷ 10 ∷ 9 ∷ 8 ∷ 5 ∷ 4 ∷ 1 ∷ []) refl
    c.args.op _ c.ranges.op.fits c.in_default.in_default-own.rest c.no_offset_row.ensures
