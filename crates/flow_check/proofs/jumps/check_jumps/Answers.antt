-- `flow_check::jumps::check_jumps` meets its contract. The loop's invariant: the jumps of the starts passed land on starts.
use Rattle.std.proofs.Common.{arith}
use Rattle.std.proofs.lemmas.Result.{err_from_is_err_and}
use Rattle.control_flow.specs.Exploring.{fails, passes}
use Rattle.flow_check.proofs.jumps.check_jumps.Goals as goal

pub returns-in_err-check_jump : goal.returns-in_err-check_jump
returns-in_err-check_jump c =
    let refusal = err_from_is_err_and c.from_residual.result c.from_residual.ensures.1 in
    let found = c.in_err-check_jump.ensures.fails in
    rw (refusal.1, refusal.2, found.0)
    (fails
    (record {
      start = record { low = c.loop-at.auto.at; high = c.loop-at-test.true; is = found.1 };
      is = found.2;
      some = c.in_err-check_jump.field-0.0.some;
      lower = λ o low s. c.loop-at.invariant o s.low low s.is;
    }))

pub returns : goal.returns
returns c = passes (λ o s. c.loop-at.invariant o s.low (omega (arith, s.high, c.loop-at-test.false)) s.is)
