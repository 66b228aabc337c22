-- `hex_records::judging::shape_check` meets its contract.
use Rattle.hex_records.specs.Judging.{shape_check}
use borrow.Author.Tests.{eq-eqb, ne_eqb}
use borrow.Author.Rules.{rules}
use Rattle.hex_records.proofs.judging.shape_check.Goals as goal

pub under-requires : goal.under-requires
under-requires c = search rules

pub returns-then-kind-eq0 : goal.returns-then-kind-eq0
unfolding shape_check
returns-then-kind-eq0 c = rw (eq-eqb _ _ c.if-kind-eq0.true, c.under.ensures)

pub differ-requires : goal.differ-requires
differ-requires c = search rules

pub differ-requires-then-kind-eq1 : goal.differ-requires-then-kind-eq1
differ-requires-then-kind-eq1 c = search rules

pub first-requires : goal.first-requires
first-requires c = search rules

pub returns-then-kind-eq1 : goal.returns-then-kind-eq1
unfolding shape_check
returns-then-kind-eq1 c = rw (ne_eqb _ _ c.if-kind-eq0.false, eq-eqb _ _ c.if-kind-eq1.true, c.first.ensures, c.differ-then-kind-eq1.ensures, c.differ.ensures)

pub returns : goal.returns
unfolding shape_check
returns c = rw (ne_eqb _ _ c.if-kind-eq0.false, ne_eqb _ _ c.if-kind-eq1.false)
