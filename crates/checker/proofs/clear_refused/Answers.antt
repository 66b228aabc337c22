-- `checker::clear_refused` meets its contract.
use Rattle.std.proofs.Common.{rules}
use Rattle.checker.proofs.clear_refused.Goals as goal

pub returns-in-Err : goal.returns-in-Err
returns-in-Err c = rw c.in-Err.is (c.fill.ensures.after (λ y e. search rules))
