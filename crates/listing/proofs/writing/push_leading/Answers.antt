-- `listing::writing::push_leading` meets its contract.
use native.Mathlib.Omega.{arith}
use borrow.Author.Tests.{eq-eqb, ne_eqb}
use Rattle.listing.specs.Decimal.{leading}
use Rattle.listing.proofs.Appending.{wrote_none}
use Rattle.listing.proofs.writing.push_leading.Goals as goal

pub returns-then-n-eq0 : goal.returns-then-n-eq0
unfolding leading
returns-then-n-eq0 c = rw (eq-eqb _ 0 c.if-n-eq0.true) (wrote_none _ _ (omega (arith, c.requires)))

pub returns : goal.returns
unfolding leading
returns c = rw (ne_eqb _ 0 c.if-n-eq0.false) c.push_digit.ensures
