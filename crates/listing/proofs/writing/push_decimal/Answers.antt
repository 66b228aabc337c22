-- `listing::writing::push_decimal` meets its contract.
use Prim.Native.Nat.{◌/◌}
use native.Mathlib.Omega.{arith}
use Rattle.listing.specs.Decimal.{decimal}
use Rattle.listing.proofs.Appending.{◌then◌}
use Rattle.listing.proofs.Sizes.{leading_size}
use Rattle.listing.proofs.writing.push_decimal.Goals as goal

pub push_leading-at-requires-2 : goal.push_leading-at-requires-2
push_leading-at-requires-2 c =
    let n = c.args.n in
    omega (arith, leading_size (n / 10000))

pub push_leading-at-requires-3 : goal.push_leading-at-requires-3
push_leading-at-requires-3 c =
    let n = c.args.n in
    omega (arith, leading_size (n / 10000), leading_size (n / 1000))

pub push_leading-at-requires-4 : goal.push_leading-at-requires-4
push_leading-at-requires-4 c =
    let n = c.args.n in
    omega (arith, leading_size (n / 10000), leading_size (n / 1000), leading_size (n / 100))

pub push_digit-requires : goal.push_digit-requires
push_digit-requires c =
    let n = c.args.n in
    omega (arith, leading_size (n / 10000), leading_size (n / 1000), leading_size (n / 100), leading_size (n / 10))

pub returns : goal.returns
unfolding decimal
returns c =
    c.push_leading-at.ensures then c.push_leading-at-2.ensures then c.push_leading-at-3.ensures then
    c.push_leading-at-4.ensures then c.push_digit.ensures
