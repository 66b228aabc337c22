-- `opcodes::shared::register_row_8` meets its contract.
use mathlib.Core.Path.{refl}
use mathlib.Core.List.{[], ◌∷◌}
use Rattle.stm8.specs.OpcodeMap.{Blank, register_row8}
use Rattle.stm8.specs.declared.Instruction.TheVariants.{Pushw}
use Rattle.opcodes.specs.Entries.{in_row}
use Rattle.opcodes.proofs.Arms.{otherwise}
use Rattle.opcodes.proofs.shared.register_row_8.Goals as goal

pub returns-in-5 : goal.returns-in-5
unfolding in_row
returns-in-5 c = rw c.in-5.is

pub returns-in_default : goal.returns-in_default
unfolding in_row
returns-in_default c = otherwise (5 ∷ []) (register_row8 c.args.register Blank Blank Blank Blank) (Pushw c.args.register) refl c.args.op c.in_default.in_default-own.rest
