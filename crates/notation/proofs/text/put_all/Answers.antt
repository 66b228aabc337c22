use Rattle.std.proofs.Common.{sym, ap, take}
use Rattle.std.proofs.lemmas.List.{take_more}
use Rattle.notation.specs.Writing.{appended}
use Rattle.notation.proofs.Growing.{appended_twice}
use Rattle.notation.proofs.text.put_all.Goals as goal

pub loop-letter-preserved : goal.loop-letter-preserved
loop-letter-preserved g c =
    let start = take c.args.length c.args.cells.now in (
      c.put-end.ensures.within,
      rw (c.put-end.ensures.written, c.loop-letter.invariant.1, appended_twice)
          (ap (appended g.row.N start) (sym (take_more c.args.letters.now c.loop-letter.letter-index _ c.loop-letter-test.true))),
    )
