-- `listing::lines::push_front` meets its contract.
use native.Mathlib.Omega.{arith}
use Rattle.listing.proofs.Appending.{◌then◌}
use Rattle.listing.proofs.Sizes.{decimal_size}
use Rattle.listing.proofs.lines.push_front.Goals as goal

pub push-requires : goal.push-requires
push-requires c =
    omega (arith, decimal_size c.args.depth)

pub returns : goal.returns
returns c =
    c.push_word-at.ensures then c.push-at.ensures then c.push_decimal-at.ensures then c.push.ensures
