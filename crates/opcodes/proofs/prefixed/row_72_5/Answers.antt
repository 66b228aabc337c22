-- `opcodes::prefixed::row_72_5` meets its contract.
use Rattle.stm8.specs.declared.Operand.TheVariants.{Long}
use Rattle.opcodes.proofs.prefixed.row_72_5.Goals as goal

pub returns : goal.returns
returns c = c.modify_of.ensures (Long c.args.ab)
