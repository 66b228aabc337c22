-- `vectors::put_cells` meets its contract: at each turn the cells that are left give the whole.
use Prim.Native.Nat.{◌≤◌, ◌-◌}
use mathlib.Core.Path.{◌≡◌}
use lib.ListN.{length, drop}
use Rattle.vectors.specs.Bytes.{with_cells}
use Rattle.vectors.proofs.put_cells.Given as goal

abbrev pub invariant-loop-at : goal.invariant-loop-at
invariant-loop-at l =
    (l.at ≤ length l.cells) × (length l.memory ≡ length l.initial.memory) × (with_cells l.memory (drop l.at l.cells) ≡ with_cells l.initial.memory l.cells)

abbrev pub decreases-loop-at : goal.decreases-loop-at
decreases-loop-at l = length l.cells - l.at
