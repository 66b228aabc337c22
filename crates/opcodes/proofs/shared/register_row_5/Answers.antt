-- `opcodes::shared::register_row_5` meets its contract.
use mathlib.Core.Path.{refl}
use mathlib.Core.List.{[], ◌∷◌}
use Rattle.stm8.specs.OpcodeMap.{Blank, register_row5}
use Rattle.stm8.specs.declared.WordModifyOp.TheVariants.{Clrw}
use Rattle.stm8.specs.declared.Instruction.TheVariants.{WordModify}
use Rattle.opcodes.specs.Entries.{in_row}
use Rattle.opcodes.proofs.Arms.{otherwise}
use Rattle.opcodes.proofs.shared.register_row_5.Goals as goal

pub returns-in-10 : goal.returns-in-10
unfolding in_row
returns-in-10 c = rw c.in-10.is

pub returns-in-12 : goal.returns-in-12
unfolding in_row
returns-in-12 c = rw c.in-12.is

pub returns-in_default : goal.returns-in_default
unfolding in_row
returns-in_default c = otherwise (12 ∷ 10 ∷ []) (register_row5 c.args.register Blank Blank Blank Blank) (WordModify Clrw c.args.register) refl c.args.op c.in_default.in_default-own.rest
