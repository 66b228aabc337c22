-- `decode_pass::decoding::decode_starts` meets its contract. The loop's invariant: the starts below the next offset are decoded and stored.
use Rattle.std.proofs.Common.{refl, arith}
use Rattle.std.proofs.lemmas.Result.{err_from_is_err_and}
use Rattle.decode_pass.proofs.DecodePass.{decoded_none, here, decoded_on, refused_here, all_decoded}
use Rattle.decode_pass.proofs.decoding.decode_starts.Goals as goal

pub loop-at-init : goal.loop-at-init
loop-at-init c = (omega arith, λ image given none. (decoded_none given.routine none, omega (arith, given.routine.some)))

pub returns-in_err-d : goal.returns-in_err-d
returns-in_err-d c image given none =
    let refusal = err_from_is_err_and c.from_residual.result c.from_residual.ensures.1 in
    let to = (c.loop-at.invariant.1 image given none).0 in
    let found = c.in_err-d.ensures.decoded image given (here to given.routine c.loop-at-test.true) in
    rw (refusal.1, refusal.2, found.0)
    (refused_here to given.routine c.loop-at-test.true found.1 (λ z. absurd (omega (arith, c.in_err-d.field-0.0.some))))

pub loop-at-preserved : goal.loop-at-preserved
loop-at-preserved c = (
  omega (arith, c.loop-at.invariant.0, c.in_ok-d.ensures.ahead.0),
  λ image given none.
      let to = (c.loop-at.invariant.1 image given none).0 in
      let found = c.in_ok-d.ensures.decoded image given (here to given.routine c.loop-at-test.true) in
      ((decoded_on to given.routine c.loop-at-test.true found refl).0, c.in_ok-d.ensures.ahead.1),
)

pub returns : goal.returns
returns c image given none =
    let l = c.loop-at.invariant.1 image given none in
    all_decoded given.routine l.0 (omega (arith, l.1, c.loop-at-test.false))
