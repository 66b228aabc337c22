-- `opcodes::rows::row_9` meets its contract.
use mathlib.Core.Path.{refl, ◌∙◌}
use mathlib.Core.List.{[], ◌∷◌}
use Rattle.stm8.specs.OpcodeMap.{Blank, register_row9, row9}
use Rattle.stm8.specs.declared.Register.TheVariants.{X}
use Rattle.opcodes.specs.Entries.{in_row}
use Rattle.opcodes.proofs.Arms.{as_in}
use Rattle.opcodes.proofs.rows.row_9.Goals as goal

pub returns-in-8 : goal.returns-in-8
unfolding in_row
returns-in-8 c = rw c.in-8.is

pub returns-in-9 : goal.returns-in-9
unfolding in_row
returns-in-9 c = rw c.in-9.is

pub returns-in-12 : goal.returns-in-12
unfolding in_row
returns-in-12 c = rw c.in-12.is

pub returns-in-13 : goal.returns-in-13
unfolding in_row
returns-in-13 c = rw c.in-13.is

pub returns-in_default : goal.returns-in_default
unfolding in_row
returns-in_default c = c.register_row_9.ensures ∙ as_in (register_row9 X Blank Blank Blank Blank) row9 (13 ∷ 12 ∷ 9 ∷ 8 ∷ []) refl c.args.op _
    c.in_default.in_default-own.rest
