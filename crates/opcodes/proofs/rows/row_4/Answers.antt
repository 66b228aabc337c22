-- `opcodes::rows::row_4` meets its contract.
use mathlib.Core.Path.{refl, ◌∙◌}
use mathlib.Core.List.{[], ◌∷◌}
use Rattle.stm8.specs.OpcodeMap.{Blank, modify_row, row4}
use Rattle.stm8.specs.declared.Operand.TheVariants.{Accumulator}
use Rattle.opcodes.specs.Entries.{in_row}
use Rattle.opcodes.proofs.Arms.{as_in}
use Rattle.opcodes.proofs.rows.row_4.Goals as goal

pub returns-in-2 : goal.returns-in-2
unfolding in_row
returns-in-2 c = rw c.in-2.is

pub returns-in-5 : goal.returns-in-5
unfolding in_row
returns-in-5 c = rw c.in-5.is

pub returns-in-11 : goal.returns-in-11
unfolding in_row
returns-in-11 c = rw c.in-11.is

pub returns-in_default : goal.returns-in_default
unfolding in_row
returns-in_default c = c.modify_of.ensures Accumulator ∙ as_in (modify_row Accumulator Blank Blank Blank) (row4 c.args.a c.args.b) (11 ∷ 5 ∷ 2 ∷ []) refl c.args.op _
    c.in_default.in_default-own.rest
