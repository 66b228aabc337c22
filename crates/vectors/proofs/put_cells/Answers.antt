-- `vectors::put_cells` meets its contract: at each turn the cells that are left give the whole.
use Prim.Native.Nat.{◌-◌}
use mathlib.Core.Path.{refl}
use native.Mathlib.Omega.{arith}
use Rattle.vectors.proofs.Cells.{same_length as keeps-length, turn, end}
use Rattle.vectors.proofs.put_cells.Goals as goal

pub loop-at-init : goal.loop-at-init
loop-at-init c = (omega arith, refl, refl)

pub loop-at-preserved : goal.loop-at-preserved
loop-at-preserved c =
    let s = c.args.cells.now in (
      omega arith,
      keeps-length c.loop-at.memory _ c.args.memory.now _ _ c.put_byte.ensures c.loop-at.invariant.1,
      turn c.loop-at.memory _ _ s c.loop-at.at _ _ c.loop-at-test.true c.word_at-address.ensures c.byte_at.ensures
          c.put_byte.ensures c.loop-at.invariant.2,
    )

pub returns : goal.returns
returns c =
    end c.loop-at.memory _ c.args.cells.now c.loop-at.at c.loop-at-test.false c.loop-at.invariant.2

pub shape_of-memory : goal.shape_of-memory
shape_of-memory c = c.loop-at.invariant.1
