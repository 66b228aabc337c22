-- `listing::writing::push_bytes` meets its contract.
use Rattle.listing.proofs.Appending.{wrote_part}
use Rattle.listing.proofs.writing.push_bytes.Goals as goal

pub returns : goal.returns
returns c = rw c.copy_from_slice.ensures.after (wrote_part c.args.at c.args.buffer.now c.args.source.now c.requires)
