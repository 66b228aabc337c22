-- `listing::writing::push_word` meets its contract.
use Rattle.listing.proofs.Appending.{◌then◌}
use Rattle.listing.proofs.writing.push_word.Goals as goal

pub returns : goal.returns
returns c =
    rw (c.high.ensures, c.low.ensures) at (c.push_hex-next.ensures then c.push_hex.ensures)
