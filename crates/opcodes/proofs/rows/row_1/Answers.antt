-- `opcodes::rows::row_1` meets its contract.
use mathlib.Core.Path.{refl, ◌∙◌}
use mathlib.Core.List.{[], ◌∷◌}
use Rattle.stm8.specs.OpcodeMap.{indexed_row, row1}
use Rattle.stm8.specs.declared.Operand.TheVariants.{Sp}
use Rattle.opcodes.specs.Entries.{in_row}
use Rattle.opcodes.proofs.Arms.{as_in}
use Rattle.opcodes.proofs.rows.row_1.Goals as goal

pub returns-in-6 : goal.returns-in-6
unfolding in_row
returns-in-6 c = rw c.in-6.is

pub returns-in-7 : goal.returns-in-7
unfolding in_row
returns-in-7 c = rw c.in-7.is

pub returns-in-12 : goal.returns-in-12
unfolding in_row
returns-in-12 c = rw c.in-12.is

pub returns-in-13 : goal.returns-in-13
unfolding in_row
returns-in-13 c = rw c.in-13.is

pub returns-in-14 : goal.returns-in-14
unfolding in_row
returns-in-14 c = rw c.in-14.is

pub returns-in-15 : goal.returns-in-15
unfolding in_row
returns-in-15 c = rw c.in-15.is

pub returns-in_default : goal.returns-in_default
unfolding in_row
returns-in_default c = c.alu_of.ensures (Sp c.args.a) ∙ as_in (indexed_row (Sp c.args.a)) (row1 c.args.a c.args.ab) (15 ∷ 14 ∷ 13 ∷ 12 ∷ 7 ∷ 6 ∷ []) refl c.args.op _
    c.in_default.in_default-own.rest
