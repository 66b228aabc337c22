-- `opcodes::shared::register_row_9` meets its contract.
use mathlib.Core.Path.{refl}
use mathlib.Core.List.{[], ◌∷◌}
use Rattle.stm8.specs.OpcodeMap.{Blank, register_row9}
use Rattle.stm8.specs.declared.Half.TheVariants.{Low}
use Rattle.stm8.specs.declared.Instruction.TheVariants.{LoadHalf}
use Rattle.opcodes.specs.Entries.{in_row}
use Rattle.opcodes.proofs.Arms.{otherwise}
use Rattle.opcodes.proofs.shared.register_row_9.Goals as goal

pub returns-in-3 : goal.returns-in-3
unfolding in_row
returns-in-3 c = rw c.in-3.is

pub returns-in-5 : goal.returns-in-5
unfolding in_row
returns-in-5 c = rw c.in-5.is

pub returns-in-7 : goal.returns-in-7
unfolding in_row
returns-in-7 c = rw c.in-7.is

pub returns-in-14 : goal.returns-in-14
unfolding in_row
returns-in-14 c = rw c.in-14.is

pub returns-in_default : goal.returns-in_default
unfolding in_row
returns-in_default c = otherwise (14 ∷ 7 ∷ 5 ∷ 3 ∷ []) (register_row9 c.args.register Blank Blank Blank Blank) (LoadHalf c.args.register Low) refl c.args.op
    c.in_default.in_default-own.rest
