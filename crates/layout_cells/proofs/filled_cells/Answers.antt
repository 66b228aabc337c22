-- `layout_cells::filled_cells` meets its contract.
use Rattle.std.proofs.Common.{arith}
use Rattle.image.proofs.Alone.{laid_bounds}
use Rattle.layout_cells.proofs.Filling.{cells_filled}
use Rattle.layout_cells.proofs.filled_cells.Goals as goal

pub returns : goal.returns
returns c =
    let measured = c.args.measured.now in
    let few = (laid_bounds _ _ c.requires.alone).count.1 in
    cells_filled c.args.image.now measured.layout measured.begins few (omega arith) c.requires.begins c.header_cells-cells.ensures c.copy_from_slice.ensures.after (omega arith)
