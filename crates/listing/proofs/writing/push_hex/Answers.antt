-- `listing::writing::push_hex` meets its contract.
use Rattle.listing.proofs.Appending.{◌then◌}
use Rattle.listing.proofs.writing.push_hex.Goals as goal

pub returns : goal.returns
returns c =
    rw (c.hex_digit.ensures, c.hex_digit-2.ensures) at (c.push-next.ensures then c.push.ensures)
