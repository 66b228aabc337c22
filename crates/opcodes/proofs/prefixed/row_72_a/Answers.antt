-- `opcodes::prefixed::row_72_a` meets its contract.
use mathlib.Core.Path.{refl}
use mathlib.Core.List.{[], ◌∷◌}
use Rattle.stm8.specs.OpcodeMap.{two}
use Rattle.stm8.specs.declared.Register.TheVariants.{Y}
use Rattle.stm8.specs.declared.WordAluOp.TheVariants.{Addw, Subw}
use Rattle.stm8.specs.declared.Instruction.TheVariants.{WordAlu}
use Rattle.opcodes.specs.Entries.{in_row}
use Rattle.opcodes.proofs.Arms.{otherwise}
use Rattle.opcodes.proofs.prefixed.row_72_a.Goals as goal

pub returns-in-2 : goal.returns-in-2
unfolding in_row
returns-in-2 c = rw c.in-2.is

pub returns-in_default : goal.returns-in_default
unfolding in_row
returns-in_default c = otherwise (2 ∷ []) (two 2 (WordAlu Subw Y c.args.ab) 9 (WordAlu Addw Y c.args.ab)) (WordAlu Addw Y c.args.ab) refl c.args.op c.in_default.in_default-own.rest
