-- `decoder::lengths::plain_length` meets its contract.
use Rattle.stm8.specs.OpcodeMap.{Plain}
use Rattle.decoder.proofs.Selected.{digit_length}
use Rattle.decoder.proofs.lengths.plain_length.Goals as goal

pub returns : goal.returns
returns c = digit_length Plain c.ranges.op.fits c.plain_row.ensures c.digit.ensures
