-- `records::back::put_unless` meets its contract.
use borrow.Author.Tests.{eq-eqb, ne_eqb}
use Rattle.records.proofs.GivingBack.{put_by}
use Rattle.records.proofs.back.put_unless.Goals as goal

pub returns-then-number-eq0 : goal.returns-then-number-eq0
returns-then-number-eq0 c =
    rw (eq-eqb _ _ c.if-number-eq0.true) (put_by c.args.given _ _ _ c.put_listed.ensures c.put_listed-then-number-eq0.ensures)

pub returns-else-number-eq0 : goal.returns-else-number-eq0
returns-else-number-eq0 c = rw (ne_eqb _ _ c.if-number-eq0.false)
