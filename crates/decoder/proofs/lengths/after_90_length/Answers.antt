-- `decoder::lengths::after_90_length` meets its contract.
use Rattle.stm8.specs.OpcodeMap.{After90}
use Rattle.decoder.proofs.Selected.{digit_length}
use Rattle.decoder.proofs.lengths.after_90_length.Goals as goal

pub returns : goal.returns
returns c = digit_length After90 c.ranges.op.fits c.after_90_row.ensures c.digit.ensures
