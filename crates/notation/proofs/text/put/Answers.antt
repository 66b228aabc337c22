use Rattle.std.proofs.Common.{arith, length-take-le}
use Rattle.notation.proofs.Growing.{letter_stored, letter_left_out}
use Rattle.notation.proofs.text.put.Goals as goal

pub returns-then-length-clause-written : goal.returns-then-length-clause-written
returns-then-length-clause-written g c = letter_stored g.row.N c.args.length c.args.cells.now c.args.letter c.told-cells c.if-length.true

pub returns-else-length-clause-written : goal.returns-else-length-clause-written
returns-else-length-clause-written g c =
    let size = length-take-le c.args.length c.args.cells.now (omega (arith, c.told-cells, c.requires)) in
    letter_left_out g.row.N _ c.args.letter (omega (arith, size, c.if-length.false))
