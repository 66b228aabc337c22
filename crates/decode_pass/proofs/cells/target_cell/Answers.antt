-- `decode_pass::cells::target_cell` meets its contract.
use Rattle.std.proofs.Common.{◌+◌, ◌<◌, ◌≤◌, sym, ◌∙◌, lt-ltb, le-ltb, arith}
use borrow.Author.Tests.{leb-true, leb-false, ltb-false}
use Rattle.acceptance.specs.Cells.{target_cell}
use Rattle.decode_pass.proofs.cells.target_cell.Goals as goal
use Rattle.decode_pass.proofs.cells.target_cell.Goals.{then-address-base, else-address-base}

pub returns-then-base-end : goal.returns-then-base-end
unfolding target_cell
returns-then-base-end c =
    elim c.if-address-base.branch [
      | then-address-base w ↦
          let low : c.args.address < c.args.base + c.args.start = omega (arith, w.if-address-base.true) in
          rw (lt-ltb _ _ low)
      | else-address-base w ↦
          let low : c.args.base + c.args.start ≤ c.args.address = omega (arith, w.if-address-base.false) in
          let past : c.args.base + c.args.end ≤ c.args.address = omega (arith, leb-true _ _ (sym w.value-is ∙ c.if-base-end.true)) in
          rw (le-ltb _ _ low, le-ltb _ _ past)
    ]

pub returns-else-base-end : goal.returns-else-base-end
unfolding target_cell
returns-else-base-end c =
    elim c.if-address-base.branch [
      | then-address-base w ↦ absurd (omega (arith, w.if-address-base.true, ltb-false _ _ (sym w.value-is ∙ c.if-base-end.false)))
      | else-address-base w ↦
          let low : c.args.base + c.args.start ≤ c.args.address = omega (arith, w.if-address-base.false) in
          let before : c.args.address < c.args.base + c.args.end = omega (arith, leb-false _ _ (sym w.value-is ∙ c.if-base-end.false)) in
          rw (c.from-base.ensures, le-ltb _ _ low, lt-ltb _ _ before)
    ]
