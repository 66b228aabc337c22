-- `hex_records::reading::data_length` meets its contract.
use Rattle.hex_records.specs.Judging.{length_in}
use Rattle.hex_records.proofs.reading.data_length.Goals as goal

pub returns : goal.returns
unfolding length_in
returns c = c.byte_in.ensures
