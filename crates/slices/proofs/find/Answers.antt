-- `slices::find` answers the first index of its byte: it is here, it is not here, or there is none.
use Rattle.std.proofs.Common.{arith}
use Rattle.slices.proofs.Searching.{index_found, index_missed, index_past}
use Rattle.slices.proofs.find.Goals as goal

pub returns-then-bytes-i-clause-value : goal.returns-then-bytes-i-clause-value
returns-then-bytes-i-clause-value c =
    omega (arith, index_found c.args.bytes.now c.args.byte c.loop-i.i c.args.to (omega arith) c.requires.within c.if-bytes-i.true)

pub loop-i-preserved : goal.loop-i-preserved
loop-i-preserved c =
    let past = index_missed c.args.bytes.now c.args.byte c.loop-i.i c.args.to (omega arith) c.requires.within c.if-bytes-i.false in
    omega (arith, past)

pub returns-clause-value : goal.returns-clause-value
returns-clause-value c =
    let end = index_past c.args.bytes.now c.args.byte c.args.to c.requires.within in
    grind (arith, end)
