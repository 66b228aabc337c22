-- `decode_pass::cells::callee_cell` meets its contract.
use Rattle.std.proofs.Common.{arith}
use Rattle.decode_pass.proofs.Callees.{callee_earlier, callee_none}
use Rattle.decode_pass.proofs.cells.callee_cell.Goals as goal

pub returns-in-Some : goal.returns-in-Some
returns-in-Some c image e begins = callee_earlier image _ _ _ (c.in-Some.ensures.found image c.requires e begins) c.in-Some.ensures.earlier

pub returns-in-None : goal.returns-in-None
returns-in-None c image e begins = callee_none image _ _ _ (c.in-None.ensures.found image c.requires e begins) (omega arith)
