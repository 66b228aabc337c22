-- `opcodes::rows::row_6` meets its contract.
use mathlib.Core.Path.{refl}
use Rattle.stm8.specs.OpcodeMap.{one}
use Rattle.stm8.specs.declared.Operand.TheVariants.{Sp}
use Rattle.stm8.specs.declared.Instruction.TheVariants.{Store}
use Rattle.opcodes.proofs.Arms.{alone}
use Rattle.opcodes.proofs.rows.row_6.Goals as goal

pub returns : goal.returns
returns c = alone (one 11 (Store (Sp c.args.a))) (Store (Sp c.args.a)) refl
