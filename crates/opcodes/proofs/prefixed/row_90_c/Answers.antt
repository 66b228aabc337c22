-- `opcodes::prefixed::row_90_c` meets its contract.
use mathlib.Core.Path.{refl}
use mathlib.Core.List.{[], ◌∷◌}
use Rattle.stm8.specs.OpcodeMap.{two}
use Rattle.stm8.specs.declared.Register.TheVariants.{Y}
use Rattle.stm8.specs.declared.Operand.TheVariants.{Long}
use Rattle.stm8.specs.declared.Instruction.TheVariants.{LoadWord, StoreWord}
use Rattle.opcodes.specs.Entries.{in_row}
use Rattle.opcodes.proofs.Arms.{otherwise}
use Rattle.opcodes.proofs.prefixed.row_90_c.Goals as goal

pub returns-in-14 : goal.returns-in-14
unfolding in_row
returns-in-14 c = rw c.in-14.is

pub returns-in_default : goal.returns-in_default
unfolding in_row
returns-in_default c = otherwise (14 ∷ []) (two 14 (LoadWord Y (Long c.args.ab)) 15 (StoreWord Y (Long c.args.ab))) (StoreWord Y (Long c.args.ab)) refl c.args.op
    c.in_default.in_default-own.rest
