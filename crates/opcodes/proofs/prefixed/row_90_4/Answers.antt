-- `opcodes::prefixed::row_90_4` meets its contract.
use mathlib.Core.Path.{refl}
use Rattle.stm8.specs.OpcodeMap.{one}
use Rattle.stm8.specs.declared.Register.TheVariants.{Y}
use Rattle.stm8.specs.declared.Instruction.TheVariants.{Mul}
use Rattle.opcodes.proofs.Arms.{alone}
use Rattle.opcodes.proofs.prefixed.row_90_4.Goals as goal

pub returns : goal.returns
returns c = alone (one 2 (Mul Y)) (Mul Y) refl
