-- `listing::lines::write_figures` meets its contract.
use native.Mathlib.Omega.{arith}
use Rattle.listing.proofs.Appending.{◌then◌}
use Rattle.listing.proofs.Sizes.{decimal_size}
use Rattle.listing.proofs.lines.write_figures.Goals as goal

pub push-at-requires : goal.push-at-requires
push-at-requires c =
    omega (arith, decimal_size c.args.a)

pub push_decimal-at-requires-2 : goal.push_decimal-at-requires-2
push_decimal-at-requires-2 c =
    omega (arith, decimal_size c.args.a)

pub push-requires : goal.push-requires
push-requires c =
    omega (arith, decimal_size c.args.a, decimal_size c.args.b)

pub returns : goal.returns
returns c =
    c.push_bytes-at.ensures then c.push_decimal-at.ensures then c.push-at.ensures then c.push_decimal-at-2.ensures then c.push.ensures
