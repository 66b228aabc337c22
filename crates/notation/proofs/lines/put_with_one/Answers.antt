use Rattle.notation.proofs.Separating.{with_one}
use Rattle.notation.proofs.lines.put_with_one.Goals as goal

pub returns-clause-written : goal.returns-clause-written
returns-clause-written g c =
    rw (c.spell.ensures.written, c.put-end.ensures.written, c.put_name-end.ensures.written)
    (with_one g.row.N _ c.args.name.now _)
