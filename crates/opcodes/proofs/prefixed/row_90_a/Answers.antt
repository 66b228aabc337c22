-- `opcodes::prefixed::row_90_a` meets its contract.
use mathlib.Core.Path.{refl}
use mathlib.Core.List.{[], ◌∷◌}
use Rattle.stm8.specs.OpcodeMap.{two}
use Rattle.stm8.specs.declared.Register.TheVariants.{Y}
use Rattle.stm8.specs.declared.Operand.TheVariants.{ImmediateWord}
use Rattle.stm8.specs.declared.WordAluOp.TheVariants.{Cpw}
use Rattle.stm8.specs.declared.Instruction.TheVariants.{LoadWord, WordAlu}
use Rattle.opcodes.specs.Entries.{in_row}
use Rattle.opcodes.proofs.Arms.{otherwise}
use Rattle.opcodes.proofs.prefixed.row_90_a.Goals as goal

pub returns-in-3 : goal.returns-in-3
unfolding in_row
returns-in-3 c = rw c.in-3.is

pub returns-in_default : goal.returns-in_default
unfolding in_row
returns-in_default c = otherwise (3 ∷ []) (two 3 (WordAlu Cpw Y c.args.ab) 14 (LoadWord Y (ImmediateWord c.args.ab))) (LoadWord Y (ImmediateWord c.args.ab)) refl c.args.op
    c.in_default.in_default-own.rest
