-- `opcodes::rows::row_c` meets its contract.
use mathlib.Core.Path.{refl, ◌∙◌}
use mathlib.Core.List.{[], ◌∷◌}
use Rattle.stm8.specs.OpcodeMap.{indexed_row, row_c}
use Rattle.stm8.specs.declared.Operand.TheVariants.{Long}
use Rattle.opcodes.specs.Entries.{in_row}
use Rattle.opcodes.proofs.Arms.{as_in}
use Rattle.opcodes.proofs.rows.row_c.Goals as goal

pub returns-in-7 : goal.returns-in-7
unfolding in_row
returns-in-7 c = rw c.in-7.is

pub returns-in-13 : goal.returns-in-13
unfolding in_row
returns-in-13 c = rw c.in-13.is

pub returns-in-14 : goal.returns-in-14
unfolding in_row
returns-in-14 c = rw c.in-14.is

pub returns-in-15 : goal.returns-in-15
unfolding in_row
returns-in-15 c = rw c.in-15.is

pub returns-in_default : goal.returns-in_default
unfolding in_row
returns-in_default c = c.alu_of.ensures (Long c.args.ab) ∙ as_in (indexed_row (Long c.args.ab)) (row_c c.args.ab) (15 ∷ 14 ∷ 13 ∷ 7 ∷ []) refl c.args.op _
    c.in_default.in_default-own.rest
