-- `opcodes::rows::row_2` meets its contract.
use Rattle.opcodes.proofs.rows.row_2.Goals as goal

pub returns : goal.returns
returns c = c.condition_of.ensures c.args.a
