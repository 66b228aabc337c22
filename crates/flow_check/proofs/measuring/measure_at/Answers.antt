-- `flow_check::measuring::measure_at` meets its contract. What the passed checks say of the start's cells keeps every sum and difference in range.
use Rattle.std.proofs.Common.{◌+◌, ◌≤◌, get_or, sym, arith}
use Rattle.std.proofs.lemmas.Result.{err_from_is_err_and}
use Rattle.control_flow.specs.Exploring.{middle}
use Rattle.control_flow.specs.Measuring.{skips, refuses, measures}
use Rattle.control_flow.proofs.DepthNumbers.{Inside, depth_passes}
use Rattle.flow_check.proofs.Rows.{row_read, row_same}
use Rattle.flow_check.proofs.measuring.measure_at.Goals as goal
use Rattle.flow_check.proofs.measuring.measure_at.Goals.{In_ok-check_depth}

pub returns-then-row-eq0 : goal.returns-then-row-eq0
returns-then-row-eq0 c entry end =
    let row = row_read _ _ c.index-cells-at.is c.row.view_is c.told-cells c.requires.0 in
    skips (rw row c.if-row-eq0.true)

pub returns-in_err-check_depth : goal.returns-in_err-check_depth
returns-in_err-check_depth c entry end =
    let refusal = err_from_is_err_and c.from_residual.result c.from_residual.ensures.1 in
    let row = row_read _ _ c.index-cells-at.is c.row.view_is c.told-cells c.requires.0 in
    let same = row_same _ _ c.index-cells-at.is c.told-cells c.requires.0 in
    rw (refusal.1, refusal.2, c.in_err-check_depth.ensures.offset)
    (refuses {number = c.in_err-check_depth.field-0.0.number} (rw row (omega arith)) (rw same at c.in_err-check_depth.ensures.number)
    c.in_err-check_depth.field-0.0.some)

here : (c : In_ok-check_depth) → let r = c.row.inside in
    let held = get_or c.args.depths.now c.args.at 0 in
    Inside middle held r.fall r.jump r.pops r.pushes r.store r.call × (middle + r.store ≤ held) × (r.call ≤ 32)
here c = depth_passes _ _ _ _ _ _ _ _ (sym (rw (← c.row.view_is) at c.in_ok-check_depth.ensures.number))

pub overflow_sub-depth : goal.overflow_sub-depth
overflow_sub-depth c = omega (arith, (here c).0.before_low)

pub used-requires : goal.used-requires
used-requires c =
    let h = here c in
    rw (← c.row.view_is)
    (record { small = omega (arith, h.0.before_high); behind = omega (arith, h.0.before_low, h.0.after_low); call = h.2 })

pub overflow_cast-marks : goal.overflow_cast-marks
overflow_cast-marks c = omega (arith, (here (goal.at.overflow_cast-marks c).In_ok-check_depth).0.before_high)

pub returns : goal.returns
returns c entry end =
    let row = row_read _ _ c.index-cells-at.is c.row.view_is c.told-cells c.requires.0 in
    let same = row_same _ _ c.index-cells-at.is c.told-cells c.requires.0 in
    rw (c.max-need.ensures, rw same at c.used.ensures)
    (measures (rw row (omega arith)) (sym (rw same at c.in_ok-check_depth.ensures.number)))
