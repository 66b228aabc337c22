-- `hex_records::digits::byte_of` meets its contract.
use Rattle.hex_records.specs.Digits.{byte_of}
use Rattle.hex_records.proofs.digits.byte_of.Goals as goal

pub returns : goal.returns
unfolding byte_of
returns c = rw (c.pair.ensures, c.capital-2.ensures, c.capital.ensures)
