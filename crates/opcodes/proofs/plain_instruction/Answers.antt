-- `opcodes::plain_instruction` meets its contract.
use mathlib.Core.Path.{refl}
use mathlib.Core.List.{[], ◌∷◌}
use Rattle.numbers.specs.Words.{high, low}
use Rattle.numbers.proofs.WordLaws.{word_high_low}
use Rattle.stm8.specs.OpcodeMap.{indexed_row, plain_page}
use Rattle.stm8.specs.declared.Register.TheVariants.{X}
use Rattle.stm8.specs.declared.Offset.TheVariants.{Zero}
use Rattle.stm8.specs.declared.Operand.TheVariants.{Indexed}
use Rattle.opcodes.specs.Entries.{in_row, on_page}
use Rattle.opcodes.proofs.Arms.{last_row}
use Rattle.opcodes.proofs.plain_instruction.Goals as goal

pub returns-in-1 : goal.returns-in-1
unfolding in_row on_page
returns-in-1 c = rw (c.in-1.is, word_high_low c.args.ab, ← c.high-a.ensures) c.row_1.ensures

pub returns-in-2 : goal.returns-in-2
unfolding in_row on_page
returns-in-2 c = rw (c.in-2.is, ← c.high-a.ensures) c.row_2.ensures

pub returns-in-3 : goal.returns-in-3
unfolding in_row on_page
returns-in-3 c = rw (c.in-3.is, word_high_low c.args.ab, ← c.high-a.ensures, ← c.low.ensures, ← c.high.ensures)
    (rw (← c.word.ensures) c.row_3.ensures)

pub returns-in-4 : goal.returns-in-4
unfolding in_row on_page
returns-in-4 c = rw (c.in-4.is, ← c.high-a.ensures, ← c.low-in-4.ensures) c.row_4.ensures

pub returns-in-5 : goal.returns-in-5
unfolding in_row on_page
returns-in-5 c = rw (c.in-5.is, word_high_low c.args.ab, word_high_low c.args.cd, ← c.high-a.ensures) c.row_5.ensures

pub returns-in-6 : goal.returns-in-6
unfolding in_row on_page
returns-in-6 c = rw (c.in-6.is, ← c.high-a.ensures) (c.row_6.ensures c.args.op)

pub returns-in-7 : goal.returns-in-7
unfolding in_row on_page
returns-in-7 c = rw (c.in-7.is, ← c.high-a.ensures) (c.row_7.ensures c.args.op)

pub returns-in-8 : goal.returns-in-8
unfolding in_row on_page
returns-in-8 c = rw c.in-8.is c.row_8.ensures

pub returns-in-9 : goal.returns-in-9
unfolding in_row on_page
returns-in-9 c = rw c.in-9.is c.row_9.ensures

pub returns-in-10 : goal.returns-in-10
unfolding in_row on_page
returns-in-10 c = rw (c.in-10.is, word_high_low c.args.ab, ← c.high-a.ensures) c.row_a.ensures

pub returns-in-11 : goal.returns-in-11
unfolding in_row on_page
returns-in-11 c = rw (c.in-11.is, ← c.high-a.ensures) c.row_b.ensures

pub returns-in-12 : goal.returns-in-12
unfolding in_row on_page
returns-in-12 c = rw (c.in-12.is, word_high_low c.args.ab) c.row_c.ensures

pub returns-in-13 : goal.returns-in-13
unfolding in_row on_page
returns-in-13 c = rw (c.in-13.is, word_high_low c.args.ab) c.long_offset_row.ensures

pub returns-in-14 : goal.returns-in-14
unfolding in_row on_page
returns-in-14 c = rw (c.in-14.is, ← c.high-a.ensures) c.short_offset_row.ensures

pub returns-in_default : goal.returns-in_default
unfolding in_row on_page
returns-in_default c = last_row 15 (indexed_row (Indexed X Zero)) (plain_page (high c.args.ab) (low c.args.ab) (high c.args.cd) (low c.args.cd))
    (14 ∷ 13 ∷ 12 ∷ 11 ∷ 10 ∷ 9 ∷ 8 ∷ 7 ∷ 6 ∷ 5 ∷ 4 ∷ 3 ∷ 2 ∷ 1 ∷ []) refl c.args.op _ c.ranges.op.fits c.in_default.in_default-own.rest
    c.no_offset_row.ensures
