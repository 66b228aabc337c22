-- `decoder::lengths::after_72_length` meets its contract.
use Rattle.stm8.specs.OpcodeMap.{After72}
use Rattle.decoder.proofs.Selected.{digit_length}
use Rattle.decoder.proofs.lengths.after_72_length.Goals as goal

pub returns : goal.returns
returns c = digit_length After72 c.ranges.op.fits c.after_72_row.ensures c.digit.ensures
