-- `opcodes::rows::row_a` meets its contract.
use mathlib.Core.Path.{refl, ◌∙◌}
use mathlib.Core.List.{[], ◌∷◌}
use Rattle.stm8.specs.OpcodeMap.{indexed_row, row_a}
use Rattle.stm8.specs.declared.Operand.TheVariants.{Immediate}
use Rattle.opcodes.specs.Entries.{in_row}
use Rattle.opcodes.proofs.Arms.{as_in}
use Rattle.opcodes.proofs.rows.row_a.Goals as goal

pub returns-in-3 : goal.returns-in-3
unfolding in_row
returns-in-3 c = rw c.in-3.is

pub returns-in-13 : goal.returns-in-13
unfolding in_row
returns-in-13 c = rw c.in-13.is

pub returns-in-14 : goal.returns-in-14
unfolding in_row
returns-in-14 c = rw c.in-14.is

pub returns-in_default : goal.returns-in_default
unfolding in_row
returns-in_default c = c.alu_of.ensures (Immediate c.args.a) ∙ as_in (indexed_row (Immediate c.args.a)) (row_a c.args.a c.args.ab) (14 ∷ 13 ∷ 3 ∷ []) refl c.args.op _
    c.in_default.in_default-own.rest
