-- `resuming::resume_accepted` meets its contract.
use Rattle.acceptance.specs.Passed.{depth_in}
use Rattle.resuming.specs.Good.{point_at}
use Rattle.resuming.specs.Resuming.{resumed}
use Rattle.resuming.proofs.MarkedCode.{marked_code}
use Rattle.resuming.proofs.GoodRuns.{ends_well}
use Rattle.resuming.proofs.RefusedRecords.{both_passed, refused_accepted}
use Rattle.resuming.proofs.resume_accepted.Goals as goal

pub returns-then-number-ne0 : goal.returns-then-number-ne0
returns-then-number-ne0 c =
    rw c.refused.ensures
    (refused_accepted c.saved_check-unread.ensures c.is_good-good.result (rw c.state_in-state.ensures at c.is_good-good.ensures) c.unless-ungood.ensures c.first-number.ensures
    c.if-number-ne0.true)

pub run_on-requires : goal.run_on-requires
run_on-requires c =
    let bytes = c.args.bytes.now in
    let m = marked_code c.requires.accepting in
    let passed = both_passed bytes c.saved_check-unread.ensures c.is_good-good.result c.unless-ungood.ensures c.first-number.ensures c.if-number-ne0.false in
    let good = rw passed.1 at c.is_good-good.ensures in
    ends_well c.args.image.now c.args.limits (depth_in c.args.marks.now) m.needs m.code _
    (point_at c.state_in-state.result.registers c.args.memory.now good.0) c.requires.memory_len good.1

pub returns : goal.returns
returns c =
    let passed = both_passed _ c.saved_check-unread.ensures c.is_good-good.result c.unless-ungood.ensures c.first-number.ensures c.if-number-ne0.false in
    resumed passed.0 (rw (passed.1, c.state_in-state.ensures) at c.is_good-good.ensures) (rw c.state_in-state.ensures at c.run_on.ensures.ends) (rw c.state_in-state.ensures at c.run_on.ensures.memory_after)
