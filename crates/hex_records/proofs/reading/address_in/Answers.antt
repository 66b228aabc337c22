-- `hex_records::reading::address_in` meets its contract.
use Rattle.numbers.specs.Words.{word_at}
use Rattle.hex_records.specs.Judging.{address_in}
use Rattle.hex_records.proofs.reading.address_in.Goals as goal

pub returns : goal.returns
unfolding address_in word_at
returns c = rw (c.word.ensures, c.byte_in-2.ensures, c.byte_in.ensures)
