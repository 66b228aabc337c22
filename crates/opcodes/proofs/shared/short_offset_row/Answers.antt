-- `opcodes::shared::short_offset_row` meets its contract.
use Rattle.stm8.specs.declared.Offset.TheVariants.{Byte}
use Rattle.stm8.specs.declared.Operand.TheVariants.{Indexed}
use Rattle.opcodes.proofs.shared.short_offset_row.Goals as goal

pub returns : goal.returns
returns c = c.alu_of.ensures (Indexed c.args.register (Byte c.args.offset))
