-- `opcodes::prefixed::bit_row` meets its contract.
use Rattle.stm8.specs.declared.Instruction.TheVariants.{Bit}
use Rattle.opcodes.specs.Entries.{in_row}
use Rattle.opcodes.proofs.Arms.{bit_column}
use borrow.Author.Tests.{ne_eqb}
use Rattle.opcodes.proofs.prefixed.bit_row.Goals as goal

pub returns-then-column-eq0 : goal.returns-then-column-eq0
unfolding in_row
returns-then-column-eq0 c = rw (bit_column (λ n. Bit c.args.even n c.args.ab) (λ n. Bit c.args.odd n c.args.ab) c.args.op, c.if-column-eq0.true)

pub returns-else-column-eq0 : goal.returns-else-column-eq0
unfolding in_row
returns-else-column-eq0 c = rw (bit_column (λ n. Bit c.args.even n c.args.ab) (λ n. Bit c.args.odd n c.args.ab) c.args.op, ne_eqb _ _ c.if-column-eq0.false)
