-- `opcodes::rows::row_8` meets its contract.
use mathlib.Core.Path.{refl, ◌∙◌}
use mathlib.Core.List.{[], ◌∷◌}
use Rattle.stm8.specs.OpcodeMap.{Blank, register_row8, row8}
use Rattle.stm8.specs.declared.Register.TheVariants.{X}
use Rattle.opcodes.specs.Entries.{in_row}
use Rattle.opcodes.proofs.Arms.{as_in}
use Rattle.opcodes.proofs.rows.row_8.Goals as goal

pub returns-in-1 : goal.returns-in-1
unfolding in_row
returns-in-1 c = rw c.in-1.is

pub returns-in-4 : goal.returns-in-4
unfolding in_row
returns-in-4 c = rw c.in-4.is

pub returns-in-8 : goal.returns-in-8
unfolding in_row
returns-in-8 c = rw c.in-8.is

pub returns-in-12 : goal.returns-in-12
unfolding in_row
returns-in-12 c = rw c.in-12.is

pub returns-in_default : goal.returns-in_default
unfolding in_row
returns-in_default c = c.register_row_8.ensures ∙ as_in (register_row8 X Blank Blank Blank Blank) row8 (12 ∷ 8 ∷ 4 ∷ 1 ∷ []) refl c.args.op _
    c.in_default.in_default-own.rest
