-- `opcodes::rows::row_5` meets its contract.
use mathlib.Core.Path.{refl, ◌∙◌}
use mathlib.Core.List.{[], ◌∷◌}
use Rattle.stm8.specs.OpcodeMap.{Blank, register_row5, row5}
use Rattle.stm8.specs.declared.Register.TheVariants.{X}
use Rattle.opcodes.specs.Entries.{in_row}
use Rattle.opcodes.proofs.Arms.{as_in}
use Rattle.opcodes.proofs.rows.row_5.Goals as goal

pub returns-in-1 : goal.returns-in-1
unfolding in_row
returns-in-1 c = rw c.in-1.is

pub returns-in-2 : goal.returns-in-2
unfolding in_row
returns-in-2 c = rw c.in-2.is

pub returns-in-5 : goal.returns-in-5
unfolding in_row
returns-in-5 c = rw c.in-5.is

pub returns-in-11 : goal.returns-in-11
unfolding in_row
returns-in-11 c = rw c.in-11.is

pub returns-in_default : goal.returns-in_default
unfolding in_row
returns-in_default c = c.register_row_5.ensures ∙ as_in (register_row5 X Blank Blank Blank Blank) (row5 c.args.a c.args.ab c.args.cd) (11 ∷ 5 ∷ 2 ∷ 1 ∷ []) refl c.args.op
    _ c.in_default.in_default-own.rest
