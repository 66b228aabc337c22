-- `opcodes::shared::no_offset_row` meets its contract.
use Rattle.stm8.specs.declared.Offset.TheVariants.{Zero}
use Rattle.stm8.specs.declared.Operand.TheVariants.{Indexed}
use Rattle.opcodes.proofs.shared.no_offset_row.Goals as goal

pub returns : goal.returns
returns c = c.alu_of.ensures (Indexed c.args.register Zero)
