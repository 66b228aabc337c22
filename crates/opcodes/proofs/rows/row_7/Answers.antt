-- `opcodes::rows::row_7` meets its contract.
use mathlib.Core.Path.{refl}
use Rattle.stm8.specs.OpcodeMap.{one}
use Rattle.stm8.specs.declared.Operand.TheVariants.{Sp}
use Rattle.stm8.specs.declared.AluOp.TheVariants.{Ld}
use Rattle.stm8.specs.declared.Instruction.TheVariants.{Alu}
use Rattle.opcodes.proofs.Arms.{alone}
use Rattle.opcodes.proofs.rows.row_7.Goals as goal

pub returns : goal.returns
returns c = alone (one 11 (Alu Ld (Sp c.args.a))) (Alu Ld (Sp c.args.a)) refl
