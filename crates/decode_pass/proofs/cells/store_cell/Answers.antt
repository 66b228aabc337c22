-- `decode_pass::cells::store_cell` meets its contract.
use native.Mathlib.Omega.{arith}
use borrow.Author.Tests.{eq-eqb, ne_eqb}
use Rattle.stm8.proofs.EffectLaws.{wide_some, wide_most}
use Rattle.acceptance.specs.Cells.{store_cell}
use Rattle.decode_pass.proofs.cells.store_cell.Goals as goal

pub overflow_sub-result : goal.overflow_sub-result
overflow_sub-result c = omega (arith, c.bytes_wide-else-f-eq0.ensures, wide_some c.in-OnStack.w)

pub overflow_cast-result : goal.overflow_cast-result
overflow_cast-result c = omega (arith, c.bytes_wide-else-f-eq0.ensures, wide_most c.in-OnStack.w)

pub overflow_add-result : goal.overflow_add-result
overflow_add-result c = omega (arith, c.bytes_wide-else-f-eq0.ensures, wide_most c.in-OnStack.w)

pub returns-in-Nowhere : goal.returns-in-Nowhere
unfolding store_cell
returns-in-Nowhere c = rw c.in-Nowhere.is

pub returns-then-granted : goal.returns-then-granted
unfolding store_cell
returns-then-granted c =
    rw (c.in-Direct.is, ← c.bytes_wide.ensures, ← c.granted.ensures, c.if-granted.true)

pub returns-else-granted : goal.returns-else-granted
unfolding store_cell
returns-else-granted c =
    rw (c.in-Direct.is, ← c.bytes_wide.ensures, ← c.granted.ensures, c.if-granted.false)

pub returns-then-f-eq0 : goal.returns-then-f-eq0
unfolding store_cell
returns-then-f-eq0 c = rw (c.in-OnStack.is, eq-eqb _ _ c.if-f-eq0.true)

pub returns-else-f-eq0 : goal.returns-else-f-eq0
unfolding store_cell
returns-else-f-eq0 c = rw (c.in-OnStack.is, ne_eqb _ _ c.if-f-eq0.false, c.bytes_wide-else-f-eq0.ensures, c.from.ensures)

pub returns-in-Pushed : goal.returns-in-Pushed
unfolding store_cell
returns-in-Pushed c = rw c.in-Pushed.is

pub overflow_cast-bytes_wide : goal.overflow_cast-bytes_wide
overflow_cast-bytes_wide c = omega (arith, c.bytes_wide.ensures, wide_most c.in-Direct.w)
