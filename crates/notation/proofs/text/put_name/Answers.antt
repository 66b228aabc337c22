use Rattle.std.proofs.Common.{◌≡◌, ◌+◌, ◌-◌, length, take, drop, refl, sym, ap, ◌∙◌, length-drop, arith}
use Rattle.std.proofs.lemmas.List.{take_all, take_more, take-append-drop}
use Rattle.notation.specs.Writing.{appended}
use Rattle.notation.proofs.Growing.{appended_twice}
use Rattle.notation.proofs.text.put_name.Goals as goal
use Rattle.notation.proofs.text.put_name.Goals.{then-k-letters, else-k-letters}

pub loop-k-preserved : goal.loop-k-preserved
loop-k-preserved g c =
    let k = c.loop-k.k in
    let letters = c.as_bytes-letters.result.now in
    let start = take c.args.length c.args.cells.now in
    elim c.if-k-letters.branch [
      | then-k-letters w ↦ (
        rw w.end-is w.put-end.ensures.within,
        rw (w.cells-is, w.end-is, w.put-end.ensures.written, c.loop-k.invariant.1, appended_twice)
            (ap (appended g.row.N start) (sym (take_more letters k _ w.if-k-letters.true))),
      )
      | else-k-letters w ↦ (
        rw w.end-is c.loop-k.invariant.0,
        rw (w.cells-is, w.end-is, take_all (k + 1) letters (omega (arith, w.if-k-letters.false)))
            (c.loop-k.invariant.1 ∙ ap (appended g.row.N start) (take_all k letters w.if-k-letters.false)),
      )
    ]

pub returns-else-letters-le-LONGEST_NAME-clause-written :
    goal.returns-else-letters-le-LONGEST_NAME-clause-written
returns-else-letters-le-LONGEST_NAME-clause-written g c =
    let letters = c.as_bytes-letters.result.now in
    let five : c.loop-k.k ≡ 5 = omega (arith, c.loop-k-test.false, c.loop-k.auto.k-end) in
    let rest = take_all (length letters - 5) (drop 5 letters) (omega (arith, length-drop 5 letters)) in
    rw (c.put_all.ensures.written, c.loop-k.invariant.1, appended_twice, five, rest, take-append-drop, c.as_bytes-letters.ensures.value) refl
