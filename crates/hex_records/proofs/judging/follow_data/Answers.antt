-- `hex_records::judging::follow_data` meets its contract.
use borrow.Author.Tests.{eq-eqb, ne_eqb}
use borrow.Author.Rules.{rules}
use Rattle.hex_records.proofs.judging.follow_data.Goals as goal

pub follow_check-requires : goal.follow_check-requires
follow_check-requires c = search rules

pub returns-then-kind-eq0 : goal.returns-then-kind-eq0
returns-then-kind-eq0 c = rw (eq-eqb _ _ c.if-kind-eq0.true) c.follow_check.ensures

pub returns : goal.returns
returns c = rw (ne_eqb _ _ c.if-kind-eq0.false)
