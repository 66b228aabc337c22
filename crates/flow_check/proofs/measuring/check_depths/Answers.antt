-- `flow_check::measuring::check_depths` meets its contract. The loop's invariant is `Measuring`: every start passed is done.
use Rattle.std.proofs.Common.{◌≡◌, refl, arith}
use Rattle.std.proofs.lemmas.Result.{err_from_is_err_and}
use Rattle.control_flow.specs.Exploring.{fails}
use Rattle.control_flow.proofs.Outcomes.{tested_none}
use Rattle.control_flow.proofs.Measures.{measuring_begins, measuring_ends, measuring_passes, step_refuses, step_keeps}
use Rattle.flow_check.proofs.Steps.{step_next}
use Rattle.flow_check.proofs.measuring.check_depths.Goals as goal

pub loop-at-init : goal.loop-at-init
loop-at-init c = (omega arith, λ asks. measuring_begins _ asks)

pub returns-in_err-m : goal.returns-in_err-m
returns-in_err-m c asks =
    let refusal = err_from_is_err_and c.from_residual.result c.from_residual.ensures.1 in
    let step = c.in_err-m.ensures c.args.span.entry c.args.span.end in
    let some : c.in_err-m.field-0.0.number ≡ 0 → ⊥ = λ none. absurd (omega (arith, c.in_err-m.field-0.0.some)) in
    rw (refusal.1, refusal.2)
    (record {
      tested = fails (step_refuses _ asks (c.loop-at.invariant.1 asks) c.loop-at-test.true step some);
      measured = λ none. absurd (some none);
    })

pub loop-at-preserved : goal.loop-at-preserved
loop-at-preserved c =
    let step = c.in_ok-m.ensures c.args.span.entry c.args.span.end in (
      omega (arith, (step_next step refl).1, c.loop-at.invariant.0),
      λ asks. step_keeps _ asks (c.loop-at.invariant.1 asks) c.loop-at-test.true step refl,
    )

pub returns : goal.returns
returns c asks =
    let m = c.loop-at.invariant.1 asks in
    let end : c.loop-at.at ≡ c.args.span.end = omega (arith, c.loop-at.auto.at-end c.args.span.ordered, c.loop-at-test.false) in
    record { tested = tested_none refl (measuring_passes _ asks m end); measured = λ none. measuring_ends _ asks m end }
