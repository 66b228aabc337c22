-- `opcodes::rows::row_b` meets its contract.
use mathlib.Core.Path.{refl, ◌∙◌}
use mathlib.Core.List.{[], ◌∷◌}
use Rattle.stm8.specs.OpcodeMap.{indexed_row, row_b}
use Rattle.stm8.specs.declared.Operand.TheVariants.{Short}
use Rattle.opcodes.specs.Entries.{in_row}
use Rattle.opcodes.proofs.Arms.{as_in}
use Rattle.opcodes.proofs.rows.row_b.Goals as goal

pub returns-in-7 : goal.returns-in-7
unfolding in_row
returns-in-7 c = rw c.in-7.is

pub returns-in_default : goal.returns-in_default
unfolding in_row
returns-in_default c = c.alu_of.ensures (Short c.args.a) ∙ as_in (indexed_row (Short c.args.a)) (row_b c.args.a) (7 ∷ []) refl c.args.op _ c.in_default.in_default-own.rest
