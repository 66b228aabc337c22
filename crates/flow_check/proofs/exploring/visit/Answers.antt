-- `flow_check::exploring::visit` meets its contract.
use Rattle.std.proofs.Common.{◌∙◌, arith}
use Rattle.control_flow.proofs.Following.{effect}
use Rattle.flow_check.proofs.Rows.{row_read}
use Rattle.flow_check.proofs.exploring.visit.Goals as goal

pub returns-clause-visited : goal.returns-clause-visited
returns-clause-visited c ready slots is =
    let row = row_read _ _ c.index-cells-stop.is c.row.view_is c.told-cells c.args.stop.inside in
    let fall = rw row at ready.fall in
    let after = c.depth_after-after.ensures (omega (arith, is, ready.low)) (omega (arith, is, ready.high)) in
    let first = c.follow-fallen.ensures.followed (record { high = fall; some = after.some; cells = ready.cells; slots = slots; room = ready.room }) in
    let fallen = effect fall after.some ready.cells first.0 in
    let second = c.follow.ensures.followed
    (record {
      high = rw row at ready.jump;
      some = after.some;
      cells = fallen.cells;
      slots = fallen.slots ∙ slots;
      room = omega (arith, fallen.count, ready.room);
    }) in (
      λ entry.
          record {
            depth = c.depth_after-after.result;
            after = rw (← is, row) after;
            depths' = c.follow-fallen.new.trail.depths;
            stack' = c.follow-fallen.new.trail.stack;
            height' = c.follow-fallen.result.height;
            agree' = c.follow-fallen.result.agree;
            fall = rw row first.0;
            jump = rw row second.0;
          },
      λ n. second.1 (first.1 n),
    )
