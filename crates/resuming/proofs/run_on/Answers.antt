-- `resuming::run_on` meets its contract.
use native.Mathlib.Omega.{arith}
use Rattle.resuming.proofs.RunEndings.{total_most, ran_on_lem}
use Rattle.resuming.proofs.run_on.Goals as goal

pub overflow_add-result : goal.overflow_add-result
overflow_add-result c =
    let whole = rw c.allowance_of.ensures at c.run-timed.ensures.outcome in
    let most = total_most c.args.image.now c.args.limits c.args.memory.now c.args.state c.args.budget (omega arith) in
    omega (arith, rw whole at most)

pub returns : goal.returns
returns c =
    let h =
    ran_on_lem c.args.image.now c.args.limits c.args.memory.now c.args.state c.args.budget c.allowance_of.ensures c.run-timed.ensures.outcome
    c.run-timed.ensures.cost c.requires c.ending.ensures in
    record { ends = h.0; memory_after = h.1 }
